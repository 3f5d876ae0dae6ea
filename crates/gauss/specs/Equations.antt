-- Systems of linear equations whose unknowns are symbols.
use Rattle.std.specs.Prelude.{◌≡◌, ◌<◌, ℕ, List, map, All}
use Rattle.std.specs.List.Sorted.{IsStrictlyIncreasing}
use Rattle.fec_base.specs.Symbol.{IsSymbol, xor_sum}
use Rattle.sparse_rows.specs.Matrix.{Matrix}
use Rattle.sparse_rows.specs.Codeword.{IsAssignment}

-- a rising list of unknowns, and what their symbols sum to
pub record Equation : Type 0 where
  pub unknowns : List ℕ
  pub sum : List ℕ

-- a number of unknowns, the length of a symbol, and equations
pub record System : Type 0 where
  pub unknowns : ℕ
  pub len : ℕ
  pub equations : List Equation

-- the unknowns rise and are below u, and the sum is a symbol
pub record IsEquation (u len : ℕ) (e : Equation) : Type 0 where
  pub rising : IsStrictlyIncreasing e.unknowns
  pub below : All (λ c. c < u) e.unknowns
  pub sum : IsSymbol len e.sum

-- each of the equations is one
abbrev pub IsSystem : System → Type 0
IsSystem s = All (IsEquation s.unknowns s.len) s.equations

-- in each equation the symbols of its unknowns sum to its sum
pub record IsSolution (s : System) (x : ℕ → List ℕ) : Type 0 where
  pub symbols : IsAssignment s.len x
  pub sums : All (λ (e : Equation). xor_sum s.len x e.unknowns ≡ e.sum) s.equations

-- the unknowns as columns, and each equation's unknowns as a row
abbrev pub matrix_of : System → Matrix
matrix_of s =
    record { k = 0; n = s.unknowns; rows = map (λ (e : Equation). e.unknowns) s.equations }
