use Rattle.std.proofs.Common.{◌≡◌, ◌≤◌, take}
use Rattle.object_file.specs.File.{block_packets}
use Rattle.object_file.specs.Staged.{PassesOn}
use Rattle.object_file.proofs.write.put_block.Given as goal

abbrev pub invariant-loop-esi : goal.invariant-loop-esi
invariant-loop-esi g l = record {
  room : l.staging.room ≡ l.initial.staging.room;
  passed : PassesOn (g.K.Sink.held l.initial.sink) (g.K.Sink.held l.sink) l.initial.staging.bytes
      l.staging.bytes (block_packets l.header l.block (take l.esi l.word));
  later : g.K.Sink.faults l.initial.sink ≤ g.K.Sink.faults l.sink;
}
