use Rattle.tool_laws.proofs.CleanFrames.{comes_through}
use Rattle.tool_laws.proofs.laws.datagrams_are_run.Goals as goal

pub returns : goal.returns
returns c way symbol ds before after ended are known clean run =
    let law = c.datagrams_are_passed.ensures in
    comes_through law.no_fault law.passed way symbol ds before after are known clean ended run
