use Rattle.std.proofs.Common.{◌≡◌, ℕ, ◌<◌, ◌≤◌, length}
use Rattle.gauss.specs.Elimination.{lead_of, rest_byte}
use Rattle.gauss.specs.Echelon.{bits_in, pivots_in, unknowns_in}
use Rattle.gauss.proofs.clash.any_clashes.Given as goal

abbrev pub invariant-loop-j : goal.invariant-loop-j
invariant-loop-j l = record {
  long : length l.sum ≡ length l.initial.sum;
  none : (j t : ℕ) → j < l.j → unknowns_in l.form ≤ lead_of (unknowns_in l.form) l.leads j
      → t < length l.initial.sum → rest_byte (unknowns_in l.form) (bits_in l.form)
      (pivots_in l.form) l.sums t j ≡ 0;
}
