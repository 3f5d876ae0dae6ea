use Rattle.std.proofs.Common.{◌++◌, decimal}
use Rattle.std.specs.Prelude.{codes}
use Rattle.fec_base.proofs.Cuts.{cut_between, cut_longer, cut_third, on_err}
use Rattle.tool_reach.specs.Salvaged.{survey_words}
use Rattle.tool_reach.proofs.saved_report.put_survey_line.Goals as goal

pub returns-in_err-put_text-clause-cut : goal.returns-in_err-put_text-clause-cut
returns-in_err-put_text-clause-cut g c =
    let held = g.R.Sink.held in
    on_err _ _ (cut_longer (held c.args.report.now) (held c.put_text.new.sink)
    (codes "block ") (decimal c.args.block ++ survey_words c.args.survey.now)
    c.in_err-put_text.ensures.cut)

pub returns-in_err-put_number-clause-cut : goal.returns-in_err-put_number-clause-cut
returns-in_err-put_number-clause-cut g c =
    let held = g.R.Sink.held in
    on_err _ _ (cut_between (held c.args.report.now) (held c.put_text.new.sink)
    (held c.put_number.new.sink)
    (codes "block ") (decimal c.args.block) (survey_words c.args.survey.now)
    c.in_ok-put_text.ensures.bytes c.in_err-put_number.ensures.cut)

pub returns-in_err-put_survey_words-clause-cut : goal.returns-in_err-put_survey_words-clause-cut
returns-in_err-put_survey_words-clause-cut g c =
    let held = g.R.Sink.held in
    on_err _ _ (cut_third (held c.args.report.now) (held c.put_text.new.sink)
    (held c.put_number.new.sink) (held c.put_survey_words.new.report)
    (codes "block ") (decimal c.args.block) (survey_words c.args.survey.now)
    c.in_ok-put_text.ensures.bytes c.in_ok-put_number.ensures.bytes
    c.in_err-put_survey_words.ensures.cut)
