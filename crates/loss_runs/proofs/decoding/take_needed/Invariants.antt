use Rattle.std.proofs.Common.{◌≡◌, ℕ, ◌<◌, take}
use Rattle.sparse_rows.specs.Determined.{HoldsSource}
use Rattle.peeling.specs.Stands.{StandsFor}
use Rattle.loss_runs.specs.Trials.{arrivals_of}
use Rattle.loss_runs.proofs.decoding.take_needed.Given as goal

abbrev pub invariant-loop-i : goal.invariant-loop-i
invariant-loop-i l = record {
  matrix : l.core.matrix ≡ l.initial.core.matrix;
  len : l.core.len ≡ l.initial.core.len;
  stands : StandsFor l.core (take l.i (arrivals_of l.initial.core.len l.word l.positions));
  not_before : (q : ℕ) → q < l.i
      → ¬ HoldsSource l.initial.core.matrix
      (take q (arrivals_of l.initial.core.len l.word l.positions));
}
