use Rattle.std.proofs.Common.{◌≤◌, take}
use Rattle.std.specs.Io.KnownBytes.{Appends}
use Rattle.tool_commands.specs.Outcomes.{block_lines}
use Rattle.tool_commands.proofs.outcome.put_block_lines.Given as goal

abbrev pub invariant-loop-block : goal.invariant-loop-block
invariant-loop-block g l = record {
  told : Appends (g.R.Sink.held l.initial.report) (g.R.Sink.held l.report)
      (block_lines (take l.block l.finished.outcomes));
  later : g.R.Sink.faults l.initial.report ≤ g.R.Sink.faults l.report;
}
