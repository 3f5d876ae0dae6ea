use Rattle.std.proofs.Common.{◌≡◌, ◌≤◌, ◌-◌, length, take}
use Rattle.std.specs.List.{flat_map}
use Rattle.object_file.specs.Staged.{PassesOn}
use Rattle.tool_commands.proofs.decode.put_symbols.Given as goal

abbrev pub invariant-loop-position : goal.invariant-loop-position
invariant-loop-position g l = record {
  room : l.staging.room ≡ l.initial.staging.room;
  passed : PassesOn (g.K.Sink.held l.initial.sink) (g.K.Sink.held l.sink) l.initial.staging.bytes
      l.staging.bytes (take l.size (flat_map (λ symbol. symbol) (take l.position l.block.source)));
  rest : l.rest ≡ l.size - length (flat_map (λ symbol. symbol) (take l.position l.block.source));
  later : g.K.Sink.faults l.initial.sink ≤ g.K.Sink.faults l.sink;
}
