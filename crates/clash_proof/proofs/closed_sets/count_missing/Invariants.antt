use Rattle.std.proofs.Common.{◌≡◌, not, take, count_by}
use Rattle.clash_proof.proofs.closed_sets.count_missing.Given as goal

abbrev pub invariant-loop-position : goal.invariant-loop-position
invariant-loop-position l = l.missing ≡ count_by not (take l.position l.ev.arrived)
