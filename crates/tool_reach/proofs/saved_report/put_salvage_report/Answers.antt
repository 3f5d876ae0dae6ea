use Rattle.std.specs.Prelude.{codes}
use Rattle.fec_base.proofs.Cuts.{cut_behind, on_err}
use Rattle.tool_reach.specs.Salvaged.{survey_lines}
use Rattle.tool_base.specs.Refusals.{numbered}
use Rattle.tool_reach.proofs.saved_report.put_salvage_report.Goals as goal

pub returns-in_err-put_numbered-clause-cut : goal.returns-in_err-put_numbered-clause-cut
returns-in_err-put_numbered-clause-cut g c =
    let held = g.R.Sink.held in
    let now = held c.put_numbered.new.report in
    let lines = survey_lines c.args.surveys.now in
    on_err _ _ (cut_behind (held c.args.report.now) (held c.put_survey_lines.new.report) now lines
    (numbered (codes "packets ") c.args.packets)
    c.in_ok-put_survey_lines.ensures.written c.in_err-put_numbered.ensures.cut)
