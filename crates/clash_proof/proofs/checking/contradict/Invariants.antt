use Rattle.std.proofs.Common.{◌≡◌, ℕ, ◌<◌}
use Rattle.clash_proof.specs.RowSums.{rows_byte}
use Rattle.clash_proof.proofs.checking.contradict.Given as goal

abbrev pub invariant-loop-t : goal.invariant-loop-t
invariant-loop-t l = (t : ℕ) → t < l.t → rows_byte l.code l.ev t l.rows ≡ 0
