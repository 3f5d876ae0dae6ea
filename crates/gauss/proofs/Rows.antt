-- The equations of a system by their numbers.
use Rattle.std.specs.Prelude.{ℕ, List, slice_index_or}
use Rattle.sparse_rows.specs.Closure.{Set}
use Rattle.sparse_rows.specs.Matrix.{is_in}
use Rattle.gauss.specs.Equations.{Equation}
use Rattle.gauss.specs.Filling.{no_equation}

-- the unknowns of equation j, as a set
abbrev pub mask_of : List Equation → ℕ → Set
mask_of equations j = is_in (slice_index_or equations j (no_equation 0)).unknowns

-- the sum of equation j, zero past the end
abbrev pub sum_of : ℕ → List Equation → ℕ → List ℕ
sum_of len equations j = (slice_index_or equations j (no_equation len)).sum
