use Rattle.std.proofs.Common.{◌≡◌, map, slice_index, take}
use Rattle.repair_request.proofs.asking.columns_at.Given as goal

abbrev pub invariant-loop-i : goal.invariant-loop-i
invariant-loop-i l = l.found.items ≡ map (slice_index l.columns) (take l.i l.places)
