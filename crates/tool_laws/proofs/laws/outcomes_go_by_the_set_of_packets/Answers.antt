use Rattle.tool_laws.proofs.OutcomeSets.{outcomes_by_set}
use Rattle.tool_laws.proofs.laws.outcomes_go_by_the_set_of_packets.Goals as goal

pub returns : goal.returns
returns c h draws limit packets others outcomes second there back out out_too =
    outcomes_by_set h draws limit packets others outcomes second there back out out_too
