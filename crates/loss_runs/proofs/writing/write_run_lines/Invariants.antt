use Rattle.std.proofs.Common.{◌≡◌, ◌≤◌, List, length}
use Rattle.std.specs.Io.KnownBytes.{Appends}
use Rattle.loss_runs.specs.Kept.{AreFirst, AreSums}
use Rattle.loss_runs.specs.Lines.{run_lines}
use Rattle.loss_runs.specs.declared.result.RunResult.{RunResult}
use Rattle.loss_runs.proofs.writing.write_run_lines.Given as goal

abbrev pub invariant-loop : goal.invariant-loop
invariant-loop g l = record {
  trial : l.runs.trial ≡ l.initial.runs.trial;
  word : l.runs.word ≡ l.initial.runs.word;
  done : l.runs.done ≡ l.counter;
  made : (results : List RunResult)
      × AreFirst l.initial.runs.trial l.initial.runs.word results × (length results ≡ l.counter)
      × AreSums results l.sums
      × Appends (g.K.Sink.held l.initial.output) (g.K.Sink.held l.output) (run_lines results);
  later : g.K.Sink.faults l.initial.output ≤ g.K.Sink.faults l.output;
}
