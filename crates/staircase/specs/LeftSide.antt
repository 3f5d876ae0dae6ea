-- The left side of the matrix: the columns of the source symbols, row by row.
use Rattle.std.specs.Prelude.{ℕ, ◌-◌, ◌*◌, ◌%◌, ◌==◌, ◌&&◌, nat_lt, nat_le, min}
use Rattle.std.specs.Prelude.{Bool, true, not, if◌then◌else◌, Option, Some, List, [], length, map}
use Rattle.std.specs.Prelude.{drop, count_by, replicate, slice_index, slice_set}
use Rattle.std.specs.List.{list_any, range_with_len}
use Rattle.std.specs.Option.{option_map, option_and_then}
use Rattle.std.proofs.Common.{zero, suc}
use Rattle.park_miller.specs.LimitedDraws.{LimitedDraws}
use Rattle.sparse_rows.specs.Matrix.{Matrix, row_of, has_entry, with_entry}
use Rattle.staircase.specs.Pick.{Picked, pick}

-- the steps 0 to count - 1, one after the other; none where one of them is none
abbrev pub in_order : {S : Type 0} → ℕ → (ℕ → S → Option S) → S → Option S
in_order zero step s = Some s
in_order (suc i) step s = option_and_then (step i) (in_order i step s)

-- whether row r is without column c
abbrev pub lacks : Matrix → ℕ → ℕ → Bool
lacks m c r = not (has_entry m r c)

-- a matrix, and the generator after the draws that it took
pub record DrawnMatrix : Type 0 where
  pub matrix : Matrix
  pub draws : LimitedDraws

abbrev pub drawn_matrix : Matrix → LimitedDraws → DrawnMatrix
drawn_matrix m g = record { matrix = m; draws = g }

-- a matrix whose columns are being filled: its rows so far, the rows that are left to choose from,
-- and the generator
pub record Filling : Type 0 where
  pub matrix : Matrix
  pub rest : List ℕ
  pub draws : LimitedDraws

-- the rows that are left when the one at place i is taken: the first one goes to that place, and
-- leaves the front
abbrev pub without : List ℕ → ℕ → List ℕ
without rest i = drop 1 (slice_set rest i (slice_index rest 0))

-- column c goes into a row that is left, at the first drawn place whose row is without the column
unfoldable pub from_rest : ℕ → Filling → Option Filling
from_rest c f = option_map
    (λ p. record {
      matrix = with_entry f.matrix (slice_index f.rest p.value) c;
      rest = without f.rest p.value;
      draws = p.draws;
    })
    (pick (length f.rest) (λ i. lacks f.matrix c (slice_index f.rest i)) f.draws)

-- column c goes into the first drawn row that is without it
unfoldable pub from_rows : ℕ → Filling → Option Filling
from_rows c f = option_map
    (λ p. record f { matrix = with_entry f.matrix p.value c; draws = p.draws })
    (pick (f.matrix.n - f.matrix.k) (lacks f.matrix c) f.draws)

-- a turn of column c: the rows that are left are chosen from as long as one of them is without the
-- column
unfoldable pub turn : ℕ → Filling → Option Filling
turn c f = if list_any (lacks f.matrix c) f.rest then from_rest c f else from_rows c f

-- column c takes its turns
abbrev pub column : ℕ → ℕ → Filling → Option Filling
column turns c f = in_order turns (λ _. turn c) f

-- no row has a column, and n1 * k times the next row is to be chosen, in a circle
abbrev pub empty_filling : ℕ → ℕ → ℕ → LimitedDraws → Filling
empty_filling k n n1 g = record {
  matrix = record { k = k; n = n; rows = replicate (n - k) [] };
  rest = map (λ h. h % (n - k)) (range_with_len 0 (n1 * k));
  draws = g;
}

-- each column takes n1 turns, or as many as there are rows
abbrev pub columns : ℕ → ℕ → ℕ → LimitedDraws → Option Filling
columns k n n1 g = in_order k (column (min n1 (n - k))) (empty_filling k n n1 g)

-- how many source symbols row r has
abbrev pub source_degree : Matrix → ℕ → ℕ
source_degree m r = count_by (λ c. nat_lt c m.k) (row_of m r)

-- row r gains a picked column
abbrev pub with_picked : ℕ → DrawnMatrix → Option Picked → Option DrawnMatrix
with_picked r d picked = option_map (λ p. drawn_matrix (with_entry d.matrix r p.value) p.draws)
    picked

-- a row without a source symbol gains any one
unfoldable pub first_extra : ℕ → DrawnMatrix → Option DrawnMatrix
first_extra r d = if source_degree d.matrix r == 0
    then with_picked r d (pick d.matrix.k (λ _. true) d.draws) else Some d

-- a row with a single one gains another, where there is another
unfoldable pub second_extra : ℕ → DrawnMatrix → Option DrawnMatrix
second_extra r d = if (source_degree d.matrix r == 1) && nat_le 2 d.matrix.k
    then with_picked r d (pick d.matrix.k (λ c. lacks d.matrix c r) d.draws) else Some d

-- the extra columns of row r
abbrev pub extras : ℕ → DrawnMatrix → Option DrawnMatrix
extras r d = option_and_then (second_extra r) (first_extra r d)

-- the left side of n - k rows: the columns are filled, and then the rows gain their extra ones;
-- none where that takes more draws than there may be
unfoldable pub left_side : ℕ → ℕ → ℕ → LimitedDraws → Option DrawnMatrix
left_side k n n1 g = option_and_then (in_order (n - k) extras)
    (option_map (λ f. drawn_matrix f.matrix f.draws) (columns k n n1 g))
