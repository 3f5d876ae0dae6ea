use Rattle.std.proofs.Common.{refl}
use Rattle.object_file.proofs.Cores.{blank}
use Rattle.tool_base.specs.declared.causes.Refusal.TheVariants.{Memory}
use Rattle.tool_commands.specs.Ready.{IsMemory, OutcomesDue}
use Rattle.tool_base.proofs.Endings.{ends_more, ends_refused}
use Rattle.tool_commands.proofs.Sourced.{all_counts}
use Rattle.tool_commands.proofs.decode.finish.Goals as goal

pub write_outcomes-status-requires-clause-sized : goal.write_outcomes-status-requires-clause-sized
write_outcomes-status-requires-clause-sized g c = all_counts c.args.received.header
    c.args.received.receiver.cores c.in-Ok.finished.outcomes c.requires.sized
    c.in-Ok.ensures.outcomes blank

pub returns-in-Ok-clause-ends : goal.returns-in-Ok-clause-ends
returns-in-Ok-clause-ends g c = ends_more (OutcomesDue c.in-Ok.finished.outcomes
    c.args.received.header.oti.length c.args.received.packets) _ IsMemory _ _ _ _ _
    c.write_outcomes-status.result
    (λ s out text due. (c.in-Ok.finished.outcomes, c.in-Ok.ensures.outcomes, due))
    (λ refusal is. is) c.write_outcomes-status.ensures.ends

pub returns-in-Err-clause-ends : goal.returns-in-Err-clause-ends
returns-in-Err-clause-ends g c = ends_refused _ _ _ _ _ c.refuse.result Memory
    c.refuse.ensures.status refl c.refuse.ensures.told
