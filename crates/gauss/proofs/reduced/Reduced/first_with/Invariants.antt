use Rattle.std.proofs.Common.{◌≡◌, ◌<◌, ℕ, false}
use Rattle.sparse_rows.specs.Matrix.{is_in}
use Rattle.gauss.specs.Reduction.{set_at}
use Rattle.gauss.proofs.reduced.Reduced.first_with.Given as goal

abbrev pub invariant-loop-i : goal.invariant-loop-i
invariant-loop-i l = (j : ℕ) → j < l.i → is_in (set_at l.self j) l.c ≡ false
