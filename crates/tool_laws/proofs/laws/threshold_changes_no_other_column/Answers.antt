use Rattle.tool_laws.proofs.LeastPackets.{no_other_column}
use Rattle.tool_laws.proofs.laws.threshold_changes_no_other_column.Goals as goal

pub returns : goal.returns
returns c = no_other_column c.threshold_changes_nothing_else.ensures
