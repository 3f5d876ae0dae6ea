use Rattle.std.proofs.Common.{◌≤◌, take}
use Rattle.std.specs.Io.KnownBytes.{Appends}
use Rattle.tool_base.specs.Lines.{spaced}
use Rattle.tool_base.proofs.report.put_positions.Given as goal

abbrev pub invariant-loop-position : goal.invariant-loop-position
invariant-loop-position g l = record {
  told : Appends (g.R.Sink.held l.initial.report) (g.R.Sink.held l.report)
      (spaced (take l.position-index l.positions));
  later : g.R.Sink.faults l.initial.report ≤ g.R.Sink.faults l.report;
}
