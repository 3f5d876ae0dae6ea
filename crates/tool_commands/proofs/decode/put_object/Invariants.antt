use Rattle.std.proofs.Common.{◌≡◌, ◌≤◌, ◌-◌, length, take}
use Rattle.std.specs.List.{flat_map}
use Rattle.tool_commands.specs.Outcomes.{source_bytes}
use Rattle.object_file.specs.Staged.{PassesOn}
use Rattle.tool_commands.proofs.decode.put_object.Given as goal

abbrev pub invariant-loop-block : goal.invariant-loop-block
invariant-loop-block g l = record {
  room : l.staging.room ≡ l.initial.staging.room;
  passed : PassesOn (g.K.Sink.held l.initial.sink) (g.K.Sink.held l.sink) l.initial.staging.bytes
      l.staging.bytes (take l.header.oti.length
      (flat_map source_bytes (take l.block l.finished.outcomes)));
  rest : l.rest ≡ l.header.oti.length - length
      (flat_map source_bytes (take l.block l.finished.outcomes));
  later : g.K.Sink.faults l.initial.sink ≤ g.K.Sink.faults l.sink;
}
