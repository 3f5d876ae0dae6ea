use Rattle.tool_reach.proofs.Certain.{salvaged_is_certain}
use Rattle.tool_reach.proofs.laws.what_is_salvaged_is_certain.Goals as goal

pub returns : goal.returns
returns c = salvaged_is_certain
