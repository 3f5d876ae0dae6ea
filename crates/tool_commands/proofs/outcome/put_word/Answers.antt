use Rattle.std.proofs.Common.{◌++◌}
use Rattle.std.specs.Prelude.{codes}
use Rattle.fec_base.proofs.Cuts.{cut_between, cut_longer, cut_third, on_err}
use Rattle.tool_base.specs.Lines.{spaced}
use Rattle.tool_commands.proofs.outcome.put_word.Goals as goal

pub returns-in_err-put_text-clause-cut : goal.returns-in_err-put_text-clause-cut
returns-in_err-put_text-clause-cut g c =
    let held = g.R.Sink.held in
    on_err _ _ (cut_longer (held c.args.report.now) (held c.put_text.new.sink)
    (codes " undetermined") (spaced c.args.positions.now ++ codes "\n")
    c.in_err-put_text.ensures.cut)

pub returns-in_err-put_positions-clause-cut : goal.returns-in_err-put_positions-clause-cut
returns-in_err-put_positions-clause-cut g c =
    let held = g.R.Sink.held in
    on_err _ _ (cut_between (held c.args.report.now) (held c.put_text.new.sink)
    (held c.put_positions.new.report)
    (codes " undetermined") (spaced c.args.positions.now) (codes "\n")
    c.in_ok-put_text.ensures.bytes c.in_err-put_positions.ensures.cut)

pub returns-in_err-put_text-2-clause-cut : goal.returns-in_err-put_text-2-clause-cut
returns-in_err-put_text-2-clause-cut g c =
    let held = g.R.Sink.held in
    on_err _ _ (cut_third (held c.args.report.now) (held c.put_text.new.sink)
    (held c.put_positions.new.report) (held c.put_text-2.new.sink)
    (codes " undetermined") (spaced c.args.positions.now) (codes "\n")
    c.in_ok-put_text.ensures.bytes c.in_ok-put_positions.ensures.written
    c.in_err-put_text-2.ensures.cut)
