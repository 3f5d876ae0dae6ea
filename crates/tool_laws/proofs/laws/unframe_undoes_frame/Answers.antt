use Rattle.tool_laws.proofs.CleanFrames.{undone}
use Rattle.tool_laws.proofs.laws.unframe_undoes_frame.Goals as goal

pub returns : goal.returns
returns c = let law = c.datagrams_are_passed.ensures in
    undone law.no_fault law.passed law.back
