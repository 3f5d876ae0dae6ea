use Rattle.std.proofs.Common.{decimal, subst}
use Rattle.std.specs.Prelude.{codes}
use Rattle.fec_base.specs.Bytes.{AppendsFront}
use Rattle.fec_base.proofs.Cuts.{cut_behind, on_err}
use Rattle.tool_commands.specs.Outcomes.{block_lines}
use Rattle.tool_base.specs.Refusals.{numbered}
use Rattle.tool_base.proofs.Reports.{numbered_behind}
use Rattle.tool_commands.proofs.outcome.put_decode_report.Goals as goal

pub returns-in_err-put_numbered-clause-cut : goal.returns-in_err-put_numbered-clause-cut
returns-in_err-put_numbered-clause-cut g c =
    let held = g.R.Sink.held in
    let now = held c.put_numbered.new.report in
    let lines = block_lines c.args.finished.now.outcomes in
    on_err _ _ (subst (AppendsFront (held c.args.report.now) now)
    (numbered_behind lines (codes "packets ") (decimal c.args.packets) (codes "\n"))
    (cut_behind (held c.args.report.now) (held c.put_block_lines.new.report) now lines
    (numbered (codes "packets ") c.args.packets)
    c.in_ok-put_block_lines.ensures.written c.in_err-put_numbered.ensures.cut))
