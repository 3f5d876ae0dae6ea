-- What the reduction of a system of equations says.
use Rattle.std.specs.Prelude.{ℕ, List}
use Rattle.gauss.specs.Equations.{System, IsSolution}
use Rattle.gauss.specs.Reduction.{IsReducedForm}
use Rattle.gauss.specs.declared.reducing.Reduction.{Reduction}
use Rattle.gauss.specs.declared.reducing.Reduction.TheVariants as answer

-- no assignment solves the system; or this is its reduced form
abbrev pub IsReduction : System → Reduction → Type 0
IsReduction s answer.Clash = (x : ℕ → List ℕ) → ¬ IsSolution s x
IsReduction s (answer.Reduced r) = IsReducedForm s r
