use Rattle.std.proofs.Common.{◌≤◌, take}
use Rattle.std.specs.Io.KnownBytes.{Appends}
use Rattle.tool_reach.specs.Salvaged.{survey_lines}
use Rattle.tool_reach.proofs.saved_report.put_survey_lines.Given as goal

abbrev pub invariant-loop-block : goal.invariant-loop-block
invariant-loop-block g l = record {
  told : Appends (g.R.Sink.held l.initial.report) (g.R.Sink.held l.report)
      (survey_lines (take l.block l.surveys));
  later : g.R.Sink.faults l.initial.report ≤ g.R.Sink.faults l.report;
}
