use Rattle.loss_runs.proofs.Compared.{other_columns_stay}
use Rattle.loss_runs.proofs.laws.threshold_changes_nothing_else.Goals as goal

pub returns : goal.returns
returns c = other_columns_stay
