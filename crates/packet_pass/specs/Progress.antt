-- Inside: a loss with its draws, and how far it has come.
use Rattle.std.specs.Prelude.{ℕ}
use Rattle.loss_patterns.specs.declared.kind.LossKind.{LossKind}

-- a loss, the seed of its draws, and how many packets it has decided
pub record Thinned : Type 0 where
  pub kind : LossKind
  pub seed : ℕ
  pub done : ℕ
