use Rattle.std.proofs.Common.{◌≡◌, ◌≤◌, ℕ, List, take}
use Rattle.object_file.specs.File.{packets}
use Rattle.object_file.specs.Made.{AreCodewords}
use Rattle.object_file.specs.Staged.{PassesOn}
use Rattle.object_file.proofs.write.put_blocks.Given as goal

abbrev pub invariant-loop-block : goal.invariant-loop-block
invariant-loop-block g l = record {
  room : l.staging.room ≡ 262144;
  passed : (words : List (List (List ℕ))) → AreCodewords l.header l.codes l.object words
      → PassesOn (g.K.Sink.held l.initial.sink) (g.K.Sink.held l.sink) l.initial.staging.bytes
      l.staging.bytes (packets l.header (take l.block words));
  later : g.K.Sink.faults l.initial.sink ≤ g.K.Sink.faults l.sink;
}
