use Rattle.std.proofs.Common.{[], refl}
use Rattle.std.proofs.KnownBytes.{Appends-nil}
use Rattle.fec_base.specs.Outside.{stream}
use Rattle.block_cores.specs.Taken.{RefusesFile}
use Rattle.tool_base.specs.Ending.{Unwritten}
use Rattle.tool_base.proofs.Endings.{ends_refusing}
use Rattle.tool_reach.specs.SalvageRun.{FrontOfAny, SalvageDue}
use Rattle.tool_reach.specs.Surveyed.{CoresDue, IsMemory}
use Rattle.tool_reach.proofs.FileSaved.{due_of, knowing_more, lacks_of}
use Rattle.tool_reach.proofs.salvaging.salvage.Goals as goal

pub returns-in-Ok : goal.returns-in-Ok
returns-in-Ok g c =
    let left = g.S.Source.left in
    let faults = g.S.Source.faults in
    let before = stream (left c.args.input.now) (faults c.args.input.now) in
    let after = stream (left c.take_file.new.input) (faults c.take_file.new.input) in
    knowing_more (CoresDue c.in-Ok.taken.header c.in-Ok.taken.cores c.in-Ok.taken.packets)
    (SalvageDue c.args.draws c.args.packets before after) IsMemory
    (RefusesFile c.args.draws c.args.packets before after) _ _ _ _ c.finish.result
    (due_of c.args.draws c.args.packets before after c.in-Ok.taken c.in-Ok.ensures.taken)
    (lacks_of c.args.draws c.args.packets before after c.in-Ok.taken c.in-Ok.ensures.taken)
    c.finish.ensures

pub returns-in-Err : goal.returns-in-Err
returns-in-Err g c =
    let left = g.S.Source.left in
    let faults = g.S.Source.faults in
    let before = stream (left c.args.input.now) (faults c.args.input.now) in
    let after = stream (left c.take_file.new.input) (faults c.take_file.new.input) in
    let due = SalvageDue c.args.draws c.args.packets before after in
    ends_refusing due (Unwritten (RefusesFile c.args.draws c.args.packets before after))
    (FrontOfAny due) _ _ _ _ c.refuse.result c.in-Err.refusal c.refuse.ensures.status []
    (refl, c.in-Err.ensures.refusal) (Appends-nil (g.K.Sink.held c.args.output.now))
    c.refuse.ensures.told
