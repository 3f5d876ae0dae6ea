-- A generator whose draws are counted, up to a limit.
use Rattle.std.specs.Prelude.{ℕ}

-- the state of the generator, the number of draws that were used, and how many there may be
pub record LimitedDraws : Type 0 where
  pub state : ℕ
  pub used : ℕ
  pub limit : ℕ
