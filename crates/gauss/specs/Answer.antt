-- What a system of equations determines.
use Rattle.std.specs.Prelude.{◌≡◌, ◌<◌, ℕ, false, List, length}
use Rattle.sparse_rows.specs.Codeword.{symbol_at}
use Rattle.sparse_rows.specs.NullWord.{IsFirstNullWord}
use Rattle.gauss.specs.Equations.{System, IsSolution, matrix_of}
use Rattle.gauss.specs.declared.answer.Answer.{Answer}
use Rattle.gauss.specs.declared.answer.Answer.TheVariants as answer

-- a set of unknowns, rising, that isn't empty, and of which each equation has an even number, whose
-- last member is least
abbrev pub IsFirstNullSet : System → List ℕ → Type 0
IsFirstNullSet s set = IsFirstNullWord (matrix_of s) (λ unknown. false) set

-- these values solve the system, and no others do
pub record IsOnlySolution (s : System) (values : List (List ℕ)) : Type 0 where
  pub count : length values ≡ s.unknowns
  pub solves : IsSolution s (symbol_at s.len values)
  pub only : (x : ℕ → List ℕ) → IsSolution s x
      → (c : ℕ) → c < s.unknowns → x c ≡ symbol_at s.len values c

-- no assignment solves the system; or these values do and no others; or some assignment does, and
-- this is the first null set
abbrev pub IsAnswer : System → Answer → Type 0
IsAnswer s answer.Clash = (x : ℕ → List ℕ) → ¬ IsSolution s x
IsAnswer s (answer.One values) = IsOnlySolution s values
IsAnswer s (answer.Free set) = ((x : ℕ → List ℕ) × IsSolution s x) × IsFirstNullSet s set
