use Rattle.std.proofs.Common.{decimal}
use Rattle.tool_reach.specs.DatagramRun.{item_text}
use Rattle.std.proofs.KnownBytes.{Appends-trans}
use Rattle.fec_base.proofs.Cuts.{cut_behind, cut_longer, on_err}
use Rattle.tool_reach.proofs.datagram_run.put_item.Goals as goal

pub returns-in_err-put_item_text-clause-cut : goal.returns-in_err-put_item_text-clause-cut
returns-in_err-put_item_text-clause-cut g c =
    let held = g.R.Sink.held in
    on_err _ _ (cut_longer (held c.args.report.now) (held c.put_item_text.new.report)
    (item_text c.args.way) (decimal c.args.index) c.in_err-put_item_text.ensures.cut)

pub returns-in_err-put_number-clause-cut : goal.returns-in_err-put_number-clause-cut
returns-in_err-put_number-clause-cut g c =
    let held = g.R.Sink.held in
    on_err _ _ (cut_behind (held c.args.report.now) (held c.put_item_text.new.report)
    (held c.put_number.new.sink)
    (item_text c.args.way) (decimal c.args.index) c.in_ok-put_item_text.ensures.written c.in_err-put_number.ensures.cut)

pub returns-clause-written : goal.returns-clause-written
returns-clause-written g c =
    let held = g.R.Sink.held in
    Appends-trans (held c.args.report.now) (held c.put_item_text.new.report) (held c.put_number.new.sink)
    (item_text c.args.way) (decimal c.args.index) c.in_ok-put_item_text.ensures.written c.in_ok-put_number.ensures.bytes
