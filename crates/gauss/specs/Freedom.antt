-- Which unknowns of a system of equations are free.
use Rattle.std.specs.Prelude.{◌<◌, ℕ, List, All}
use Rattle.null_witness.specs.ReducedWords.{AreLate}
use Rattle.gauss.specs.Equations.{System, IsSolution}
use Rattle.gauss.specs.Reduction.{IsNullSet}
use Rattle.gauss.specs.declared.freedom.FreeUnknowns.{FreeUnknowns}
use Rattle.gauss.specs.declared.freedom.FreeUnknowns.TheVariants as answer

-- unknowns of the system: those at which its null sets end, rising
pub record AreFree (s : System) (free : List ℕ) : Type 0 where
  pub late : AreLate (IsNullSet s) free
  pub below : All (λ unknown. unknown < s.unknowns) free

-- no assignment solves the system; or some assignment does, and these are its free unknowns
abbrev pub IsFreedom : System → FreeUnknowns → Type 0
IsFreedom s answer.Clash = (x : ℕ → List ℕ) → ¬ IsSolution s x
IsFreedom s (answer.Rising free) =
    ((x : ℕ → List ℕ) × IsSolution s x) × AreFree s free.items
