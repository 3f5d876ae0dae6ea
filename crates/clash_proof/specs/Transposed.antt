-- Inside: the system whose null sets are the closed row sets. Its unknowns are the rows.
use Rattle.std.specs.Prelude.{◌≡◌, ◌<◌, ◌≤◌, ℕ, false, List, length, map, All, Contains}
use Rattle.std.specs.List.Sorted.{IsStrictlyIncreasing}
use Rattle.fec_base.specs.Symbol.{zero_symbol}
use Rattle.sparse_rows.specs.Matrix.{Matrix}
use Rattle.sparse_rows.specs.Closure.{Set}
use Rattle.sparse_rows.specs.Columns.{column_of}
use Rattle.sparse_rows.specs.NullWord.{last_of}
use Rattle.null_witness.specs.ReducedWords.{IsReducedWord}
use Rattle.gauss.specs.Equations.{Equation, System}
use Rattle.gauss.specs.Filling.{equation_at, no_equation}

-- the equation with these rows as its unknowns
abbrev pub with_rows : List ℕ → Equation → Equation
with_rows rows e = record { unknowns = rows; sum = e.sum }

-- the equation sums the rows of a column below `end` that did not arrive to zero
pub record IsColumnEquation (m : Matrix) (s : Set) (end len : ℕ) (e : Equation) : Type 0 where
  pub column : ℕ
  pub inside : column < end
  pub missing : s column ≡ false
  pub rows : e.unknowns ≡ column_of m column
  pub zero : e.sum ≡ zero_symbol len

-- the first r equations are those of the columns below `end` that did not arrive, and the others
-- are empty
pub record IsTransposed (m : Matrix) (s : Set) (end r : ℕ) (system : System) : Type 0 where
  pub unknowns : system.unknowns ≡ length m.rows
  pub each : (column : ℕ) → column < end → s column ≡ false
      → (j : ℕ) × (j < r) × ((equation_at system j).unknowns ≡ column_of m column)
  pub put : (j : ℕ) → j < r → IsColumnEquation m s end system.len (equation_at system j)
  pub rest : (j : ℕ) → r ≤ j → equation_at system j ≡ no_equation system.len

-- the sets are the reduced words, all of them, in the order in which they end
pub record AreReducedWords (words : List ℕ → Type 0) (sets : List (List ℕ)) : Type 0 where
  pub reduced : All (IsReducedWord words) sets
  pub every : (set : List ℕ) → IsReducedWord words set → Contains sets set
  pub rising : IsStrictlyIncreasing (map last_of sets)

-- no reduced word is of the kind
abbrev pub NoneOf : (List ℕ → Type 0) → (List ℕ → Type 0) → Type 0
NoneOf words kind = (word : List ℕ) → IsReducedWord words word → ¬ kind word
