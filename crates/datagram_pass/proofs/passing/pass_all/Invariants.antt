use Rattle.std.proofs.Common.{◌≡◌, ◌≤◌, List, length}
use Rattle.adu_frames.specs.Frames.{Datagram}
use Rattle.datagram_pass.specs.Progress.{Stands}
use Rattle.datagram_pass.proofs.passing.pass_all.Given as goal

abbrev pub invariant-loop-index : goal.invariant-loop-index
invariant-loop-index g l = record {
  long : length l.symbol ≡ length l.initial.symbol;
  alike : length l.datagram ≡ length l.symbol;
  came : (ds : List Datagram)
      × Stands l.way (length l.initial.symbol) (g.S.Source.left l.initial.input)
      (g.S.Source.left l.input) (g.K.Sink.held l.initial.output) (g.K.Sink.held l.output)
      ds
      × (length ds ≡ l.index);
  later : g.S.Source.faults l.initial.input ≤ g.S.Source.faults l.input;
  sink_later : g.K.Sink.faults l.initial.output ≤ g.K.Sink.faults l.output;
}
