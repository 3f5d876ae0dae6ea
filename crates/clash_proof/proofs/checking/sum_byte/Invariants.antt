use Rattle.std.proofs.Common.{◌≡◌, take}
use Rattle.clash_proof.specs.RowSums.{rows_byte}
use Rattle.clash_proof.proofs.checking.sum_byte.Given as goal

abbrev pub invariant-loop-r : goal.invariant-loop-r
invariant-loop-r l = l.byte ≡ rows_byte l.code l.ev l.t (take l.r-index l.rows)
