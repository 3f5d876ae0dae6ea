use Rattle.std.proofs.Common.{decimal}
use Rattle.std.specs.Prelude.{codes}
use Rattle.fec_base.proofs.Cuts.{cut_between, cut_third, on_err}
use Rattle.tool_base.proofs.report.put_numbered.Goals as goal

pub returns-in_err-put_number-clause-cut : goal.returns-in_err-put_number-clause-cut
returns-in_err-put_number-clause-cut g c =
    let held = g.R.Sink.held in
    on_err _ _ (cut_between (held c.args.report.now) (held c.put_text.new.sink)
    (held c.put_number.new.sink)
    c.args.text.now (decimal c.args.number) (codes "\n") c.in_ok-put_text.ensures.bytes
    c.in_err-put_number.ensures.cut)

pub returns-in_err-put_text-2-clause-cut : goal.returns-in_err-put_text-2-clause-cut
returns-in_err-put_text-2-clause-cut g c =
    let held = g.R.Sink.held in
    on_err _ _ (cut_third (held c.args.report.now) (held c.put_text.new.sink)
    (held c.put_number.new.sink) (held c.put_text-2.new.sink)
    c.args.text.now (decimal c.args.number) (codes "\n") c.in_ok-put_text.ensures.bytes
    c.in_ok-put_number.ensures.bytes c.in_err-put_text-2.ensures.cut)
