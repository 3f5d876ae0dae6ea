use Rattle.std.proofs.Common.{◌≡◌}
use Rattle.sparse_rows.specs.Closure.{members}
use Rattle.gauss.specs.Masks.{set_of}
use Rattle.gauss.proofs.masks.members_of.Given as goal

abbrev pub invariant-loop-c : goal.invariant-loop-c
invariant-loop-c l = l.set.items ≡ members l.c (set_of l.stride l.masks l.i)
