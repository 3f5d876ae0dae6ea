-- The columns of a matrix.
use Rattle.std.specs.Prelude.{ℕ, List, [], filter, length, sum_by, count_by, slice_index_or}
use Rattle.std.specs.List.{range_with_len}
use Rattle.sparse_rows.specs.Matrix.{Matrix, is_in}
use Rattle.sparse_rows.specs.Closure.{Set}

-- the rows that have column c, rising
abbrev pub column_in : List (List ℕ) → ℕ → List ℕ
column_in rows c = filter (λ r. is_in (slice_index_or rows r []) c) (range_with_len 0 (length rows))

-- the same of a matrix
abbrev pub column_of : Matrix → ℕ → List ℕ
column_of m c = column_in m.rows c

-- the number of pairs of a row and one of its columns that is in the set
abbrev pub entries : Matrix → Set → ℕ
entries m s = sum_by (count_by s) m.rows
