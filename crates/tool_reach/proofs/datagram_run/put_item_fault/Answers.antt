use Rattle.tool_base.specs.Refusals.{numbered}
use Rattle.tool_reach.specs.DatagramRun.{item_head}
use Rattle.std.proofs.KnownBytes.{Appends-trans}
use Rattle.fec_base.proofs.Cuts.{cut_behind, cut_longer, on_err}
use Rattle.tool_reach.proofs.datagram_run.put_item_fault.Goals as goal

pub returns-in_err-put_item-clause-cut : goal.returns-in_err-put_item-clause-cut
returns-in_err-put_item-clause-cut g c =
    let held = g.R.Sink.held in
    on_err _ _ (cut_longer (held c.args.report.now) (held c.put_item.new.report)
    (item_head c.args.way c.args.index) (numbered c.args.what.now c.args.number) c.in_err-put_item.ensures.cut)

pub returns-in_err-put_numbered-clause-cut : goal.returns-in_err-put_numbered-clause-cut
returns-in_err-put_numbered-clause-cut g c =
    let held = g.R.Sink.held in
    on_err _ _ (cut_behind (held c.args.report.now) (held c.put_item.new.report)
    (held c.put_numbered.new.report)
    (item_head c.args.way c.args.index) (numbered c.args.what.now c.args.number) c.in_ok-put_item.ensures.written c.in_err-put_numbered.ensures.cut)

pub returns-clause-written : goal.returns-clause-written
returns-clause-written g c =
    let held = g.R.Sink.held in
    Appends-trans (held c.args.report.now) (held c.put_item.new.report) (held c.put_numbered.new.report)
    (item_head c.args.way c.args.index) (numbered c.args.what.now c.args.number) c.in_ok-put_item.ensures.written c.in_ok-put_numbered.ensures.written
