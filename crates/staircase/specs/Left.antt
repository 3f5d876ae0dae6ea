-- What `left` promises beside the left side itself.
use Rattle.std.specs.Prelude.{◌≡◌, ℕ, ◌+◌, ◌<◌, length, All}
use Rattle.park_miller.specs.LimitedDraws.{LimitedDraws}
use Rattle.sparse_rows.specs.Matrix.{Matrix}
use Rattle.sparse_rows.specs.Building.{IsRising}
use Rattle.staircase.specs.Pick.{after_draws}

-- of n encoding symbols the first k are the source symbols, and the columns of each of the n - k
-- rows rise and lie below a bound
pub record IsFilled (k n bound : ℕ) (m : Matrix) : Type 0 where
  pub source : m.k ≡ k
  pub encoding : m.n ≡ n
  pub count : k + length m.rows ≡ n
  pub rows : All (IsRising bound) m.rows

-- each of the n - k rows has source symbols, at least one, and nothing else
pub record IsLeftSide (k n : ℕ) (m : Matrix) : Type 0 where
  pub filled : IsFilled k n k m
  pub some : All (λ row. 0 < length row) m.rows

-- the generator has made some more draws, perhaps none
pub record HasDrawn (old new : LimitedDraws) : Type 0 where
  pub count : ℕ
  pub draws : new ≡ after_draws count old
