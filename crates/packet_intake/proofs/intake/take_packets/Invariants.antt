use Rattle.std.proofs.Common.{List, [], length, ◌+◌, ◌≡◌, ◌≤◌}
use Rattle.fec_base.specs.Outside.{stream}
use Rattle.packet_file.specs.Packets.{Packet}
use Rattle.packet_file.specs.OneReading.{Reads}
use Rattle.packet_file.specs.OneReading.Stop.{Enough}
use Rattle.packet_intake.specs.Intake.{Each, Wanting}
use Rattle.packet_intake.proofs.intake.take_packets.Given as goal

-- `index` packets were taken, one after the other, each of which was wanted
abbrev pub invariant-loop-index : goal.invariant-loop-index
invariant-loop-index g l = record {
  long : length l.piece ≡ 4 + l.header.oti.symbol;
  fits : g.T.PacketTaker.fits l.header l.taker;
  stands : (packets : List Packet) × Reads l.header [] l.most
      (stream (g.S.Source.left l.initial.input) (g.S.Source.faults l.initial.input))
      (stream (g.S.Source.left l.input) (g.S.Source.faults l.input)) packets Enough
      × Each (Wanting g.T.PacketTaker.done g.T.PacketTaker.takes) l.initial.taker 0 packets l.taker
      × (length packets ≡ l.index);
  few : l.index ≤ l.most;
  later : g.S.Source.faults l.initial.input ≤ g.S.Source.faults l.input;
}
