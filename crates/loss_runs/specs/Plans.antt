-- The ranges of a plan.
use Rattle.std.specs.Prelude.{◌≤◌}
use Rattle.loss_patterns.specs.Ranges.{IsLoss}
use Rattle.loss_runs.specs.declared.plan.RunPlan.{RunPlan}

-- the length of a symbol, the numbers of the loss and the seed are in their ranges
pub record IsPlan (p : RunPlan) : Type 0 where
  pub some : 1 ≤ p.symbol
  pub most : p.symbol ≤ 65535
  pub is_loss : IsLoss p.loss
  pub positive : 1 ≤ p.seed
  pub below : p.seed ≤ 2147483646
