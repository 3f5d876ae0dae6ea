use Rattle.std.proofs.Common.{ℕ, ◌-◌, ◌<◌, ◌≤◌}
use Rattle.gauss.specs.Elimination.{IsValue}
use Rattle.gauss.specs.Echelon.{bits_in, pivots_in, unknowns_in}
use Rattle.gauss.proofs.values.write_values.Given as goal

abbrev pub invariant-loop-start : goal.invariant-loop-start
invariant-loop-start l = record {
  within : l.start ≤ l.len;
  done : (p t : ℕ) → p < unknowns_in l.form → t < l.start
      → IsValue (unknowns_in l.form) l.len (bits_in l.form) (pivots_in l.form) l.sums
      l.values p t;
}

abbrev pub decreases-loop-start : goal.decreases-loop-start
decreases-loop-start l = l.len - l.start
