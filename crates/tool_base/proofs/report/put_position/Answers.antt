use Rattle.std.proofs.Common.{decimal}
use Rattle.std.specs.Prelude.{codes}
use Rattle.fec_base.proofs.Cuts.{cut_behind, on_err}
use Rattle.tool_base.proofs.report.put_position.Goals as goal

pub returns-in_err-put_number-clause-cut : goal.returns-in_err-put_number-clause-cut
returns-in_err-put_number-clause-cut g c =
    let held = g.R.Sink.held in
    on_err _ _ (cut_behind (held c.args.report.now) (held c.put_text.new.sink)
    (held c.put_number.new.sink) (codes " ") (decimal c.args.position)
    c.in_ok-put_text.ensures.bytes c.in_err-put_number.ensures.cut)
