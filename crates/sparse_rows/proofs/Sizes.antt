-- How many entries a matrix may have.
use Rattle.std.proofs.Common.{ℕ, ◌<◌, ◌≤◌, List, [], ◌∷◌, All, length, get_or}
use Rattle.std.proofs.Common.{sum_by, refl, arith, not}
use Rattle.std.specs.List.{range_with_len}
use Rattle.std.proofs.lemmas.List.Elements.{All-from_get_or}
use Rattle.std.proofs.lemmas.List.FromFn.{length-range_with_len}
use Rattle.std.proofs.lemmas.List.Filters.{length-filter_both}
use Rattle.std.proofs.lemmas.List.Sums.{sum_by-le}
use Rattle.sparse_rows.specs.Matrix.{is_in}
use Rattle.sparse_rows.specs.Columns.{column_in}
use Rattle.sparse_rows.specs.Rows.{columns_in}
use Rattle.sparse_rows.specs.Building.{IsBuilt, IsRising}
use Rattle.sparse_rows.specs.Matrix.{Matrix}
use Rattle.sparse_rows.proofs.Flat.{rising_above}
use Rattle.sparse_rows.proofs.Null.{members_below}
use Rattle.sparse_rows.proofs.Transposed.{length_columns, column_at}

-- a rising row below n has at most n columns
row_few : (n : ℕ) (row : List ℕ) → IsRising n row → length row ≤ n
row_few n [] h = omega arith
row_few n (x ∷ row) h =
    let last : length row ≤ get_or (x ∷ row) (length row) 0 = rising_above (x ∷ row) h.rising
    (length row) (omega arith) in
    omega (arith, last, h.below (length row) 0 (omega arith))

-- a matrix that was built has fewer than 2 ^ 32 entries
pub rows_few : (m : Matrix) → IsBuilt m → sum_by length m.rows < 4294967296
rows_few m h =
    let each : All (λ (row : List ℕ). length row ≤ 65536) m.rows =
    All-from_get_or (λ (row : List ℕ). length row ≤ 65536) m.rows [] (λ i lt.
    let few = row_few m.n (get_or m.rows i []) (h.rows i [] lt) in omega (arith, few, h.most)) in
    omega (arith, sum_by-le length 65536 m.rows each, h.some, h.count, h.most)

-- counted by columns too
pub columns_few : (m : Matrix) → IsBuilt m → sum_by length (columns_in m.n m.rows) < 4294967296
columns_few m h =
    let each : All (λ (column : List ℕ). length column ≤ 65535) (columns_in m.n m.rows) =
    All-from_get_or (λ (column : List ℕ). length column ≤ 65535) (columns_in m.n m.rows) [] (λ c lt.
    let few = column_few m.rows c in
    rw (column_at m.n m.rows c (rw length_columns at lt))
    (omega (arith, few, h.some, h.count, h.most))) in
    omega (
      arith,
      sum_by-le length 65535 (columns_in m.n m.rows) each,
      length_columns m.n m.rows,
      h.most,
    )
  where
    column_few : (rows : List (List ℕ)) (c : ℕ) → length (column_in rows c) ≤ length rows
    column_few rows c =
        let both = length-filter_both (λ r. is_in (get_or rows r []) c)
        (λ r. not (is_in (get_or rows r []) c)) (λ r. refl) (range_with_len 0 (length rows)) in
        omega (arith, both, length-range_with_len 0 (length rows))

-- the columns and the rows of a matrix that was built are below 65,536
pub rows_small : (m : Matrix) → IsBuilt m → All (All (λ column. column < 65536)) m.rows
rows_small m h = All-from_get_or (All (λ column. column < 65536)) m.rows [] (λ i lt. λ k d inside.
    let below = (h.rows i [] lt).below k d inside in omega (arith, below, h.most))

pub columns_small : (m : Matrix) → IsBuilt m
    → All (All (λ row. row < 65536)) (columns_in m.n m.rows)
columns_small m h = All-from_get_or (All (λ row. row < 65536)) (columns_in m.n m.rows) [] (λ c lt.
    rw (column_at m.n m.rows c (rw length_columns at lt)) (λ i d inside.
    let below = members_below (length m.rows) (λ r. is_in (get_or m.rows r []) c) i d inside in
    omega (arith, below, h.some, h.count, h.most)))
