use Rattle.std.proofs.Common.{decimal, subst}
use Rattle.std.specs.Prelude.{codes}
use Rattle.fec_base.specs.Bytes.{AppendsFront}
use Rattle.fec_base.proofs.Cuts.{cut_behind, cut_longer, on_err}
use Rattle.tool_base.specs.Refusals.{numbered}
use Rattle.tool_base.proofs.Reports.{numbered_both}
use Rattle.tool_commands.proofs.encode.put_encode_report.Goals as goal

pub returns-in_err-put_numbered-clause-cut : goal.returns-in_err-put_numbered-clause-cut
returns-in_err-put_numbered-clause-cut g c =
    let held = g.R.Sink.held in
    let now = held c.put_numbered.new.report in
    on_err _ _ (subst (AppendsFront (held c.args.report.now) now)
    (numbered_both (codes "blocks ") (decimal c.args.blocks) (codes "\n") (codes "packets ")
    (decimal c.args.packets) (codes "\n"))
    (cut_longer (held c.args.report.now) now (numbered (codes "blocks ") c.args.blocks)
    (numbered (codes "packets ") c.args.packets) c.in_err-put_numbered.ensures.cut))

pub returns-in_err-put_numbered-2-clause-cut : goal.returns-in_err-put_numbered-2-clause-cut
returns-in_err-put_numbered-2-clause-cut g c =
    let held = g.R.Sink.held in
    let now = held c.put_numbered-2.new.report in
    on_err _ _ (subst (AppendsFront (held c.args.report.now) now)
    (numbered_both (codes "blocks ") (decimal c.args.blocks) (codes "\n") (codes "packets ")
    (decimal c.args.packets) (codes "\n"))
    (cut_behind (held c.args.report.now) (held c.put_numbered.new.report) now
    (numbered (codes "blocks ") c.args.blocks) (numbered (codes "packets ") c.args.packets)
    c.in_ok-put_numbered.ensures.written c.in_err-put_numbered-2.ensures.cut))
