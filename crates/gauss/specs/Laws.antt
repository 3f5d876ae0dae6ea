-- What holds of systems of equations.
use Rattle.std.specs.Prelude.{◌≡◌, ◌≢◌, ◌≤◌, ◌<◌, ℕ, List}
use Rattle.gauss.specs.Equations.{System, IsSystem, IsSolution}
use Rattle.gauss.specs.Answer.{IsAnswer}
use Rattle.gauss.specs.declared.answer.Answer.{Answer}
use Rattle.gauss.specs.declared.answer.Answer.TheVariants as answer

-- where the answer is a null set, two assignments that differ solve the system
abbrev pub FreeHasTwo : Type 0
FreeHasTwo = (s : System) (set : List ℕ) → IsSystem s → 1 ≤ s.len → IsAnswer s (answer.Free set)
    → (x : ℕ → List ℕ) × (y : ℕ → List ℕ) × (c : ℕ)
    × IsSolution s x × IsSolution s y × (c < s.unknowns) × (x c ≢ y c)

-- a system has at most one answer
abbrev pub AnswerIsOne : Type 0
AnswerIsOne = (s : System) (a b : Answer) → IsSystem s → 1 ≤ s.len
    → IsAnswer s a → IsAnswer s b → a ≡ b
