-- The staircase: the right side whose rows each end with two neighbouring repair symbols.
use Rattle.std.specs.Prelude.{ℕ, ◌+◌, Option, List, [], ◌∷◌, ◌++◌, length, map}
use Rattle.std.specs.List.{range_with_len}
use Rattle.std.specs.Option.{option_map}
use Rattle.std.proofs.Common.{zero, suc}
use Rattle.sparse_rows.specs.Matrix.{Matrix, row_of}
use Rattle.staircase.specs.LeftSide.{left_side}

-- the repair symbols of row i: its own, k + i, behind that of the row before
abbrev pub stair : ℕ → ℕ → List ℕ
stair k zero = k ∷ []
stair k (suc i) = (k + i) ∷ (k + suc i) ∷ []

-- row i with its repair symbols behind it
abbrev pub stair_row : Matrix → ℕ → List ℕ
stair_row m i = row_of m i ++ stair m.k i

-- a left side with the staircase behind it
abbrev pub with_stairs : Matrix → Matrix
with_stairs m = record m { rows = map (stair_row m) (range_with_len 0 (length m.rows)) }

-- a matrix, and how many draws it took
pub record CountedMatrix : Type 0 where
  pub matrix : Matrix
  pub draws : ℕ

-- the matrix of the staircase code that a seed gives; none where that takes more draws than the
-- limit
unfoldable pub staircase_matrix : ℕ → ℕ → ℕ → ℕ → ℕ → Option CountedMatrix
staircase_matrix k n n1 seed limit =
    option_map (λ left. record { matrix = with_stairs left.matrix; draws = left.draws.used })
    (left_side k n n1 (record { state = seed; used = 0; limit = limit }))
