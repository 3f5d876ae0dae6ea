use Rattle.std.proofs.Common.{◌≡◌, ℕ, ◌<◌, ◌≤◌, ◌+◌, true, false}
use Rattle.std.proofs.Math.Bool.{xor as bool_xor}
use Rattle.sparse_rows.specs.Closure.{flagged}
use Rattle.gauss.specs.Elimination.{behind, product}
use Rattle.gauss.specs.Echelon.{bits_in, pivots_in, unknowns_in}
use Rattle.gauss.proofs.null_set.put_flags.Given as goal

abbrev pub invariant-loop-k : goal.invariant-loop-k
invariant-loop-k l = record {
  free : flagged l.flags l.free ≡ true;
  past : (c : ℕ) → l.free < c → flagged l.flags c ≡ false;
  before : (c : ℕ) → c < l.free → c + l.k < l.free → flagged l.flags c ≡ false;
  back : (p : ℕ) → p < l.free → l.free ≤ p + l.k
      → flagged l.flags p ≡ product false bool_xor (unknowns_in l.form)
      (behind (bits_in l.form) (pivots_in l.form) p) (flagged l.flags);
}
