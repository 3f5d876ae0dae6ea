use Rattle.std.proofs.Common.{◌≡◌, ◌≢◌, ◌<◌, ◌&&◌, ℕ, bit_xor, ltb}
use Rattle.gauss.specs.Packed.{byte_in}
use Rattle.gauss.specs.Elimination.{product}
use Rattle.gauss.specs.Echelon.{bits_in}
use Rattle.gauss.proofs.substitution.add_range.Given as goal

abbrev pub invariant-loop-c : goal.invariant-loop-c
invariant-loop-c l = record {
  symbol : (t : ℕ) → t < l.len → byte_in l.len l.symbols t l.p
      ≡ bit_xor (byte_in l.len l.initial.symbols t l.p)
      (product 0 bit_xor l.c (λ d. ltb l.p d && bits_in l.form l.r d)
      (byte_in l.len l.initial.symbols t));
  others : (q t : ℕ) → q ≢ l.p → t < l.len → byte_in l.len l.symbols t q ≡ byte_in l.len
      l.initial.symbols t q;
}
