use Rattle.std.proofs.Common.{arith, subst}
use Rattle.std.specs.Io.KnownBytes.{Appends}
use Rattle.fec_base.specs.Bytes.{AppendsFront}
use Rattle.fec_base.proofs.Cuts.{on_err}
use Rattle.partial_block.specs.declared.outcome.Survey.{Survey}
use Rattle.tool_reach.specs.Salvaged.{survey_line}
use Rattle.tool_base.proofs.Reports.{lines_cut, lines_told}
use Rattle.tool_reach.proofs.saved_report.put_survey_lines.Goals as goal

pub returns-in_err-put_survey_line-clause-cut : goal.returns-in_err-put_survey_line-clause-cut
returns-in_err-put_survey_line-clause-cut g c =
    let held = g.R.Sink.held in
    let s = c.index-surveys-block.result in
    on_err _ _ (lines_cut survey_line (held c.args.report.now) (held c.loop-block.report)
    (held c.put_survey_line.new.report) c.args.surveys.now c.loop-block.block s
    (omega arith) c.loop-block.invariant.told
    (subst (λ (x : Survey). AppendsFront (held c.loop-block.report)
    (held c.put_survey_line.new.report) (survey_line c.loop-block.block x))
    c.index-surveys-block.is c.in_err-put_survey_line.ensures.cut))

pub loop-block-preserved : goal.loop-block-preserved
loop-block-preserved g c =
    let held = g.R.Sink.held in
    let s = c.index-surveys-block.result in
    record {
      told = lines_told survey_line (held c.args.report.now) (held c.loop-block.report)
          (held c.put_survey_line.new.report) c.args.surveys.now c.loop-block.block
          s (omega arith) c.loop-block.invariant.told
          (subst (λ (x : Survey). Appends (held c.loop-block.report)
          (held c.put_survey_line.new.report) (survey_line c.loop-block.block x))
          c.index-surveys-block.is c.in_ok-put_survey_line.ensures.written);
      later = omega (arith, c.loop-block.invariant.later, c.put_survey_line.ensures.cause.later);
    }
