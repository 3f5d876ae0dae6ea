use Rattle.std.proofs.Common.{◌≡◌, false}
use Rattle.std.proofs.Math.Bool.{xor as bool_xor}
use Rattle.sparse_rows.specs.Closure.{flagged}
use Rattle.gauss.specs.Packed.{bits_of}
use Rattle.gauss.specs.Elimination.{product}
use Rattle.gauss.proofs.null_set.is_odd.Given as goal

abbrev pub invariant-loop-c : goal.invariant-loop-c
invariant-loop-c l = l.odd ≡ product false bool_xor l.c (bits_of l.width l.words l.r)
    (flagged l.flags)
