-- A matrix that is being built.
use Rattle.std.specs.Prelude.{◌≡◌, ℕ, ◌+◌, ◌<◌, ◌≤◌, List, length, All}
use Rattle.std.specs.List.Sorted.{IsStrictlyIncreasing}
use Rattle.sparse_rows.specs.Matrix.{Matrix}

-- a row that is being built: its columns rise and lie below n
pub record IsRising (n : ℕ) (row : List ℕ) : Type 0 where
  pub rising : IsStrictlyIncreasing row
  pub below : All (λ column. column < n) row

-- a matrix that is being built: n - k rows, whatever they hold
pub record IsBuilt (m : Matrix) : Type 0 where
  pub some : 1 ≤ m.k
  pub within : m.k ≤ m.n
  pub most : m.n ≤ 65536
  pub count : m.k + length m.rows ≡ m.n
  pub rows : All (IsRising m.n) m.rows
