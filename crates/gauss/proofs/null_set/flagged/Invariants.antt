use Rattle.std.proofs.Common.{◌≡◌}
use Rattle.sparse_rows.specs.Closure.{flagged, members}
use Rattle.gauss.proofs.null_set.flagged.Given as goal

abbrev pub invariant-loop-c : goal.invariant-loop-c
invariant-loop-c l = l.set.items ≡ members l.c (flagged l.flags)
