-- Inside: the matrix while its rows are filled.
use Rattle.std.specs.Prelude.{ℕ, ◌+◌, min, length, List, [], ◌∷◌, ◌++◌, map, replicate}
use Rattle.std.specs.Int.{div_ceil}
use Rattle.std.specs.List.{range_with_len}
use Rattle.sparse_rows.specs.Matrix.{Matrix, row_of}
use Rattle.blocking.specs.Blocks.{size_2d}
use Rattle.parity_2d.specs.Grid.{grid_row, grid_column}

-- the source symbols of each row of the grid, and then those of each of its columns
abbrev pub grid_sources : ℕ → ℕ → List (List ℕ)
grid_sources k w = map (grid_row k w) (range_with_len 0 (div_ceil k w))
    ++ map (grid_column k w) (range_with_len 0 (min w k))

-- and then all source symbols for each corner
abbrev pub source_rows : ℕ → ℕ → ℕ → List (List ℕ)
source_rows k w corners = grid_sources k w ++ replicate corners (range_with_len 0 k)

-- the matrix with its own parity behind each row
abbrev pub with_parities : Matrix → Matrix
with_parities m = record m
    { rows = map (λ r. row_of m r ++ (m.k + r) ∷ []) (range_with_len 0 (length m.rows)) }

-- the parity check matrix with so many corners
abbrev pub matrix_of : ℕ → ℕ → ℕ → Matrix
matrix_of k w corners = with_parities record
    { k = k; n = size_2d k w + corners; rows = source_rows k w corners }
