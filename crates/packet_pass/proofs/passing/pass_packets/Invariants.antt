use Rattle.std.proofs.Common.{◌≡◌, ◌≤◌, ◌+◌, List, length}
use Rattle.fec_base.specs.Outside.{stream}
use Rattle.packet_file.specs.Packets.{Packet}
use Rattle.packet_file.specs.OneReading.Stop.{Enough}
use Rattle.packet_pass.specs.Writing.{HasWritten, PassesPackets}
use Rattle.packet_pass.proofs.passing.pass_packets.Given as goal

abbrev pub invariant-loop-index : goal.invariant-loop-index
invariant-loop-index g l = record {
  long : length l.piece ≡ 4 + l.header.oti.symbol;
  pass : l.writer.pass ≡ l.initial.writer.pass;
  ready : HasWritten l.header l.writer l.index;
  came : (packets : List Packet) × PassesPackets l.initial.writer.pass l.most l.header
      (stream (g.S.Source.left l.initial.input) (g.S.Source.faults l.initial.input))
      (stream (g.S.Source.left l.input) (g.S.Source.faults l.input))
      (stream (g.K.Sink.held l.initial.output) (g.K.Sink.faults l.initial.output))
      (stream (g.K.Sink.held l.output) (g.K.Sink.faults l.output)) packets Enough
      × (length packets ≡ l.index);
  few : l.index ≤ l.most;
  later : g.S.Source.faults l.initial.input ≤ g.S.Source.faults l.input;
  sink_later : g.K.Sink.faults l.initial.output ≤ g.K.Sink.faults l.output;
}
