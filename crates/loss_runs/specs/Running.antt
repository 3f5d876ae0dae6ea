-- What contracts see of runs.
use Rattle.std.specs.Prelude.{ℕ, List}
use Rattle.loss_runs.specs.Trials.{Trial}

-- the trial, the codeword of its source block, and how many runs were made
pub record Running : Type 0 where
  pub trial : Trial
  pub word : List (List ℕ)
  pub done : ℕ
