-- Inside: how the types of this crate keep a matrix.
use Rattle.std.specs.Prelude.{◌≡◌, ℕ, ◌+◌, ◌-◌, ◌<◌, ◌≤◌, List, [], ◌∷◌, length, map, take, drop}
use Rattle.std.specs.Prelude.{slice_index, slice_index_or, cond, ◌++◌}
use Rattle.std.specs.List.{range_with_len}
use Rattle.smallvec.specs.SmallVec.{SmallVec}
use Rattle.sparse_rows.specs.Matrix.{Matrix, IsCode, is_in}
use Rattle.sparse_rows.specs.Columns.{column_in}

-- the columns of each row that is kept by itself
abbrev pub lists_of : List (SmallVec ℕ) → List (List ℕ)
lists_of rows = map (λ (row : SmallVec ℕ). row.items) rows

-- the matrix of such rows
abbrev pub matrix_of_rows : ℕ → ℕ → List (SmallVec ℕ) → Matrix
matrix_of_rows k n rows = record { k = k; n = n; rows = lists_of rows }

-- the lists that lie one after the other in one list of items, each from its start to the next
-- start
abbrev pub lists_from : List ℕ → List ℕ → List (List ℕ)
lists_from [] items = []
lists_from (start ∷ []) items = []
lists_from (start ∷ next ∷ starts) items = take (next - start) (drop start items) ∷ lists_from
    (next ∷ starts) items

-- the starts rise from 0, and the last of them is the end of the items
pub record AreStarts (starts items : List ℕ) : Type 0 where
  pub some : 0 < length starts
  pub first : slice_index starts 0 ≡ 0
  pub rising : (i : ℕ) → i + 1 < length starts → slice_index starts i ≤ slice_index starts (i + 1)
  pub last : slice_index starts (length starts - 1) ≡ length items

-- the first n columns in their order, each as its rows
abbrev pub columns_in : ℕ → List (List ℕ) → List (List ℕ)
columns_in n rows = map (column_in rows) (range_with_len 0 n)

-- a code, kept by rows and by columns
pub record IsKept (k n : ℕ) (rows columns : List (List ℕ)) : Type 0 where
  pub code : IsCode (record { k = k; n = n; rows = rows })
  pub columns_are : columns ≡ columns_in n rows

-- each column of the row has gained row r
pub record GainsRow (r : ℕ) (row : List ℕ) (old new : List (List ℕ)) : Type 0 where
  pub count : length new ≡ length old
  pub each : (c : ℕ)
      → slice_index_or new c [] ≡ slice_index_or old c [] ++ cond (is_in row c) (r ∷ []) []
