-- Two-dimensional parity: k source symbols fill a grid of w columns, row by row.
use Rattle.std.specs.Prelude.{ℕ, ◌+◌, ◌/◌, ◌%◌, ◌==◌, min, List, [], ◌∷◌, ◌++◌, filter, map}
use Rattle.std.specs.Int.{div_ceil}
use Rattle.std.specs.List.{range_with_len}
use Rattle.sparse_rows.specs.Matrix.{Matrix}
use Rattle.blocking.specs.Blocks.{size_2d}

-- the source symbols in row i of the grid
abbrev pub grid_row : ℕ → ℕ → ℕ → List ℕ
grid_row k w i = filter (λ c. (c / w) == i) (range_with_len 0 k)

-- the source symbols in column j of the grid
abbrev pub grid_column : ℕ → ℕ → ℕ → List ℕ
grid_column k w j = filter (λ c. (c % w) == j) (range_with_len 0 k)

-- the parity check matrix: the grid's rows, each with its parity, and then its columns, each with
-- its parity
abbrev pub grid_matrix : ℕ → ℕ → Matrix
grid_matrix k w =
    let a = div_ceil k w in
    record {
      k = k;
      n = size_2d k w;
      rows = map (λ i. grid_row k w i ++ (k + i) ∷ []) (range_with_len 0 a)
          ++ map (λ j. grid_column k w j ++ (k + a + j) ∷ []) (range_with_len 0 (min w k));
    }
