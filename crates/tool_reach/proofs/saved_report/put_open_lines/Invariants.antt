use Rattle.std.proofs.Common.{◌≤◌, take}
use Rattle.std.specs.Io.KnownBytes.{Appends}
use Rattle.std.specs.List.{flat_map}
use Rattle.tool_reach.specs.Salvaged.{open_line, sources_of}
use Rattle.tool_reach.proofs.saved_report.put_open_lines.Given as goal

abbrev pub invariant-loop-e : goal.invariant-loop-e
invariant-loop-e g l = record {
  told : Appends (g.R.Sink.held l.initial.report) (g.R.Sink.held l.report)
      (flat_map (open_line l.partial) (take l.e (sources_of l.partial)));
  later : g.R.Sink.faults l.initial.report ≤ g.R.Sink.faults l.report;
}
