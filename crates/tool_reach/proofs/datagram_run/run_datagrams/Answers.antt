use Rattle.std.proofs.Common.{sym}
use Rattle.tool_reach.proofs.DatagramRuns.{ends_fault, ends_input, ends_memory, ends_output}
use Rattle.tool_reach.proofs.DatagramRuns.{ends_whole}
use Rattle.tool_reach.proofs.datagram_run.run_datagrams.Goals as goal

pub returns-in-Ok : goal.returns-in-Ok
returns-in-Ok g c = let put = c.put_numbered.ensures in
    ends_whole c.args.way c.args.symbol _ _ c.conclude.result c.in-Ok.count c.in-Ok.ensures.whole
    c.put_numbered.result put.written put.cut put.cause c.conclude.ensures.whole
    c.conclude.ensures.failed c.conclude.ensures.other

pub returns-in-Err-Memory : goal.returns-in-Err-Memory
returns-in-Err-Memory g c = ends_memory c.args.way c.args.symbol _ _ c.refuse.result
    c.in-Err-Memory.field-0 c.in-Err-Memory.ensures.ends c.in-Err-Memory.field-0-is
    c.refuse.ensures.status c.refuse.ensures.told

pub returns-in-Err-Read : goal.returns-in-Err-Read
returns-in-Err-Read g c = ends_input c.args.way c.args.symbol _ _ c.refuse-in-Err-Read.result
    c.in-Err-Read.field-0 c.in-Err-Read.ensures.ends c.in-Err-Read.field-0-is
    c.refuse-in-Err-Read.ensures.status c.refuse-in-Err-Read.ensures.told

pub returns-in-Err-Fault : goal.returns-in-Err-Fault
returns-in-Err-Fault g c = ends_fault c.args.way c.args.symbol _ _ c.refuse_input.result
    c.in-Err-Fault.field-0 c.in-Err-Fault.ensures.ends _ _ (sym c.in-Err-Fault.fault-is)
    c.in-Err-Fault.field-0-is c.refuse_input.ensures.status c.refuse_input.ensures.told

pub returns-in-Err-Output : goal.returns-in-Err-Output
returns-in-Err-Output g c = ends_output c.args.way c.args.symbol _ _ c.tell.result
    c.in-Err-Output.field-0 c.in-Err-Output.ensures.ends c.in-Err-Output.field-0-is
    c.tell.ensures.status c.tell.ensures.told
