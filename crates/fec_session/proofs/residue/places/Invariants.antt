use Rattle.std.proofs.Common.{◌≡◌, map}
use Rattle.std.specs.List.{range_with_len}
use Rattle.fec_session.specs.Residue.{place}
use Rattle.fec_session.proofs.residue.places.Given as goal

abbrev pub invariant-loop-column : goal.invariant-loop-column
invariant-loop-column l = record {
  places : l.places.items ≡ map (place l.core) (range_with_len 0 l.column);
  unknown : l.unknown ≡ place l.core l.column;
}
