use Rattle.std.proofs.Common.{List, ◌≤◌, ◌++◌, take}
use Rattle.sparse_rows.specs.Codeword.{Arrival}
use Rattle.peeling.specs.Stands.{StandsFor}
use Rattle.one_block.specs.Block.{arrivals_of, IsOfBlock}
use Rattle.one_block.proofs.receiver.take_packets.Given as goal

abbrev pub invariant-loop-packet : goal.invariant-loop-packet
invariant-loop-packet g l = record {
  block : IsOfBlock l.session.core;
  stands : (arrivals : List Arrival) → StandsFor l.initial.session.core arrivals
      → StandsFor l.session.core (arrivals ++ arrivals_of (take l.packet-index l.packets));
  later : g.W.Watch.faults l.initial.session.watch ≤ g.W.Watch.faults l.session.watch;
}
