-- The parity check matrix of a code.
use Rattle.std.specs.Prelude.{◌≡◌, ℕ, ◌+◌, ◌<◌, ◌≤◌, ◌==◌, nat_lt, Bool, List, [], ◌∷◌, ◌++◌}
use Rattle.std.specs.Prelude.{filter, length, slice_index_or, slice_set, All, Any, Contains}
use Rattle.std.specs.List.{list_any}
use Rattle.std.specs.List.Sorted.{IsStrictlyIncreasing}

-- of n columns the first k are the source symbols, and each row lists its columns
pub record Matrix : Type 0 where
  pub k : ℕ
  pub n : ℕ
  pub rows : List (List ℕ)

-- the columns of row r
abbrev pub row_of : Matrix → ℕ → List ℕ
row_of m r = slice_index_or m.rows r []

-- the row's columns rise, the last of them is `last`, and some are source symbols
pub record IsRow (k last : ℕ) (row : List ℕ) : Type 0 where
  pub rising : IsStrictlyIncreasing row
  pub holds : Contains row last
  pub within : All (λ column. column ≤ last) row
  pub source : Any (λ column. column < k) row

-- there are n - k rows, and row i ends with column k + i
pub record HasShape (m : Matrix) : Type 0 where
  pub count : m.k + length m.rows ≡ m.n
  pub row : (i : ℕ) → i < length m.rows → IsRow m.k (m.k + i) (row_of m i)

-- a matrix of the shape, within the limits of a block
pub record IsCode (m : Matrix) : Type 0 where
  pub some : 1 ≤ m.k
  pub most : m.n ≤ 65536
  pub shape : HasShape m

-- whether the column is one of the list
abbrev pub is_in : List ℕ → ℕ → Bool
is_in columns column = list_any (λ c. c == column) columns

-- whether row r of the matrix has column c
abbrev pub has_entry : Matrix → ℕ → ℕ → Bool
has_entry m r c = is_in (row_of m r) c

-- the row with column c: the columns below c, c itself, and those above
abbrev pub with_column : ℕ → List ℕ → List ℕ
with_column c row = filter (λ column. nat_lt column c) row ++ c ∷ filter
    (λ column. nat_lt c column) row

-- the matrix whose row r has column c too
abbrev pub with_entry : Matrix → ℕ → ℕ → Matrix
with_entry m r c = record m { rows = slice_set m.rows r (with_column c (row_of m r)) }
