use Rattle.std.proofs.Common.{◌≡◌, ℕ, ◌<◌, length}
use Rattle.gauss.specs.Reduction.{set_at}
use Rattle.clash_proof.specs.Proofs.{ContradictedBy}
use Rattle.clash_proof.proofs.finding.first_refuting.Given as goal

abbrev pub invariant-loop-i : goal.invariant-loop-i
invariant-loop-i l = record {
  long : length l.sum ≡ l.ev.len;
  none : (j : ℕ) → j < l.i → ¬ ContradictedBy l.code l.ev (set_at l.sets j);
}
