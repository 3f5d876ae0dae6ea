use Rattle.std.proofs.Common.{◌≡◌, ◌<◌, ◌≤◌, ℕ, bit_xor}
use Rattle.gauss.specs.Packed.{byte_in}
use Rattle.gauss.specs.Elimination.{product}
use Rattle.gauss.specs.Groups.{in_group}
use Rattle.gauss.specs.Echelon.{bits_in, pivots_in, unknowns_in}
use Rattle.gauss.proofs.substitution.add_values_before.Given as goal

abbrev pub invariant-loop-p : goal.invariant-loop-p
invariant-loop-p l = record {
  done : (q t : ℕ) → q < l.p → t < l.len
      → byte_in l.len l.symbols t q ≡ bit_xor (byte_in l.len l.initial.symbols t q)
      (product 0 bit_xor (unknowns_in l.form)
      (in_group l.group (bits_in l.form (pivots_in l.form q)))
      (byte_in l.len l.initial.symbols t));
  rest : (q t : ℕ) → l.p ≤ q → t < l.len → byte_in l.len l.symbols t q ≡ byte_in l.len
      l.initial.symbols t q;
}
