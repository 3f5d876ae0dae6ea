use Rattle.std.proofs.Common.{ℕ, ◌<◌, get_or}
use Rattle.clash_proof.proofs.checking.are_rows.Given as goal

abbrev pub invariant-loop-r : goal.invariant-loop-r
invariant-loop-r l = (i : ℕ) → i < l.r-index → get_or l.rows i 0 < l.count
