use Rattle.std.proofs.Common.{sym}
use Rattle.tool_commands.proofs.PassRuns.{ends_file, ends_memory, ends_output, ends_whole}
use Rattle.tool_commands.proofs.pass_run.run_pass.Goals as goal

pub returns-in-Ok : goal.returns-in-Ok
returns-in-Ok g c = let put = c.put_pass_report.ensures in
    ends_whole c.args.what c.args.most _ _ c.conclude.result c.in-Ok.passed c.in-Ok.ensures.whole
    c.put_pass_report.result put.written put.cut put.cause c.conclude.ensures.whole
    c.conclude.ensures.failed c.conclude.ensures.other

pub returns-in-Err-Memory : goal.returns-in-Err-Memory
returns-in-Err-Memory g c = ends_memory c.args.what c.args.most _ _ c.refuse.result
    c.in-Err-Memory.field-0 c.in-Err-Memory.ensures.ends c.in-Err-Memory.field-0-is
    c.refuse.ensures.status c.refuse.ensures.told

pub returns-in-Err-File : goal.returns-in-Err-File
returns-in-Err-File g c = ends_file c.args.what c.args.most _ _ c.refuse-in-Err-File.result
    c.in-Err-File.field-0 c.in-Err-File.ensures.ends _ _ (sym c.in-Err-File.fault-is)
    c.in-Err-File.field-0-is c.refuse-in-Err-File.ensures.status c.refuse-in-Err-File.ensures.told

pub returns-in-Err-Output : goal.returns-in-Err-Output
returns-in-Err-Output g c = ends_output c.args.what c.args.most _ _ c.tell.result
    c.in-Err-Output.field-0 c.in-Err-Output.ensures.ends c.in-Err-Output.field-0-is
    c.tell.ensures.status c.tell.ensures.told
