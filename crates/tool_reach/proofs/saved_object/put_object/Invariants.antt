use Rattle.std.proofs.Common.{◌≡◌, ◌≤◌, ◌-◌, length, take}
use Rattle.std.specs.List.{flat_map}
use Rattle.object_file.specs.Staged.{PassesOn}
use Rattle.tool_reach.specs.Salvaged.{salvaged_bytes}
use Rattle.tool_reach.proofs.saved_object.put_object.Given as goal

abbrev pub invariant-loop-block : goal.invariant-loop-block
invariant-loop-block g l = record {
  room : l.staging.room ≡ l.initial.staging.room;
  passed : PassesOn (g.K.Sink.held l.initial.sink) (g.K.Sink.held l.sink) l.initial.staging.bytes
      l.staging.bytes (take l.size
      (flat_map (salvaged_bytes (length l.zeros)) (take l.block l.surveys)));
  rest : l.rest ≡ l.size - length
      (flat_map (salvaged_bytes (length l.zeros)) (take l.block l.surveys));
  later : g.K.Sink.faults l.initial.sink ≤ g.K.Sink.faults l.sink;
}
