use Rattle.std.proofs.Common.{◌≡◌, ◌≤◌, ◌-◌, length, take}
use Rattle.std.specs.List.{flat_map}
use Rattle.object_file.specs.Staged.{PassesOn}
use Rattle.tool_reach.specs.Salvaged.{salvaged_symbol, sources_of}
use Rattle.tool_reach.proofs.saved_object.put_symbols.Given as goal

abbrev pub invariant-loop-e : goal.invariant-loop-e
invariant-loop-e g l = record {
  room : l.staging.room ≡ l.initial.staging.room;
  passed : PassesOn (g.K.Sink.held l.initial.sink) (g.K.Sink.held l.sink) l.initial.staging.bytes
      l.staging.bytes (take l.size (flat_map (salvaged_symbol (length l.zeros) l.partial)
      (take l.e (sources_of l.partial))));
  rest : l.rest ≡ l.size - length (flat_map (salvaged_symbol (length l.zeros) l.partial)
      (take l.e (sources_of l.partial)));
  later : g.K.Sink.faults l.initial.sink ≤ g.K.Sink.faults l.sink;
}
