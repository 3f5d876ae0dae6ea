-- The parity check matrix of a grid with a corner.
use Rattle.std.specs.Prelude.{ℕ, [], ◌∷◌, ◌++◌}
use Rattle.std.specs.List.{range_with_len}
use Rattle.sparse_rows.specs.Matrix.{Matrix}
use Rattle.blocking.specs.Blocks.{size_2d}
use Rattle.blocking.specs.CornerSize.{size_2d_corner}
use Rattle.parity_2d.specs.Grid.{grid_matrix}

-- the grid's rows and columns, and a last row of all source symbols and the last column, which is
-- the corner
abbrev pub corner_matrix : ℕ → ℕ → Matrix
corner_matrix k w = record {
  k = k;
  n = size_2d_corner k w;
  rows = (grid_matrix k w).rows ++ (range_with_len 0 k ++ size_2d k w ∷ []) ∷ [];
}
