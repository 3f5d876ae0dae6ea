use Rattle.std.proofs.Common.{decimal, ◌++◌}
use Rattle.std.specs.Prelude.{codes}
use Rattle.fec_base.proofs.Cuts.{cut_between, cut_longer, cut_third, on_err}
use Rattle.tool_base.specs.Refusals.{numbered}
use Rattle.tool_reach.proofs.saved_report.put_counts.Goals as goal

pub returns-in_err-put_text-clause-cut : goal.returns-in_err-put_text-clause-cut
returns-in_err-put_text-clause-cut g c =
    let held = g.R.Sink.held in
    on_err _ _ (cut_longer (held c.args.report.now) (held c.put_text.new.sink) (codes " partial ")
    (decimal c.args.determined ++ numbered (codes " of ") c.args.count)
    c.in_err-put_text.ensures.cut)

pub returns-in_err-put_number-clause-cut : goal.returns-in_err-put_number-clause-cut
returns-in_err-put_number-clause-cut g c =
    let held = g.R.Sink.held in
    on_err _ _ (cut_between (held c.args.report.now) (held c.put_text.new.sink)
    (held c.put_number.new.sink) (codes " partial ") (decimal c.args.determined)
    (numbered (codes " of ") c.args.count)
    c.in_ok-put_text.ensures.bytes c.in_err-put_number.ensures.cut)

pub returns-in_err-put_numbered-clause-cut : goal.returns-in_err-put_numbered-clause-cut
returns-in_err-put_numbered-clause-cut g c =
    let held = g.R.Sink.held in
    on_err _ _ (cut_third (held c.args.report.now) (held c.put_text.new.sink)
    (held c.put_number.new.sink) (held c.put_numbered.new.report) (codes " partial ")
    (decimal c.args.determined) (numbered (codes " of ") c.args.count)
    c.in_ok-put_text.ensures.bytes c.in_ok-put_number.ensures.bytes
    c.in_err-put_numbered.ensures.cut)
