use Rattle.std.proofs.Common.{◌≡◌, ◌≢◌, ◌<◌, ◌≤◌, ◌+◌, ◌/◌, ◌⊎◌, ℕ, bit_xor}
use Rattle.gauss.specs.Packed.{byte_in}
use Rattle.gauss.specs.Elimination.{behind, product}
use Rattle.gauss.specs.Groups.{in_group}
use Rattle.gauss.specs.Echelon.{bits_in, pivots_in, unknowns_in}
use Rattle.gauss.proofs.substitution.add_values_within.Given as goal

abbrev pub invariant-loop-k : goal.invariant-loop-k
invariant-loop-k l = record {
  own : (p t : ℕ) → p < unknowns_in l.form → p / 8 ≡ l.group → l.end ≤ p + l.k → t < l.len
      → byte_in l.len l.symbols t p ≡ bit_xor (byte_in l.len l.initial.symbols t p)
      (product 0 bit_xor (unknowns_in l.form)
      (in_group l.group (behind (bits_in l.form) (pivots_in l.form) p))
      (byte_in l.len l.symbols t));
  rest : (p t : ℕ) → (p + l.k < l.end) ⊎ (p / 8 ≢ l.group) → t < l.len
      → byte_in l.len l.symbols t p ≡ byte_in l.len l.initial.symbols t p;
}
