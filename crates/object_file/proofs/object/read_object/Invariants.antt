use Rattle.std.proofs.Common.{◌≡◌, ◌+◌, ◌-◌, ◌≤◌, vec_len}
use Rattle.std.specs.Io.KnownBytes.{Consumes}
use Rattle.object_file.proofs.object.read_object.Given as goal

abbrev pub invariant-loop-input : goal.invariant-loop-input
invariant-loop-input g l = record {
  whole : vec_len l.piece ≡ 65536;
  bound : vec_len l.object ≤ 268435456 + 65536;
  taken : Consumes (g.S.Source.left l.initial.input) (g.S.Source.left l.input) l.object.items;
  later : g.S.Source.faults l.initial.input ≤ g.S.Source.faults l.input;
}

abbrev pub decreases-loop-input : goal.decreases-loop-input
decreases-loop-input g l = 268435456 + 1 - vec_len l.object
