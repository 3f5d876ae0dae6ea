use Rattle.std.proofs.Common.{◌≡◌, ℕ, ◌<◌, length, get_or, bit_xor}
use Rattle.gauss.specs.Packed.{sum_byte}
use Rattle.gauss.specs.Elimination.{product}
use Rattle.gauss.specs.Echelon.{bits_in, pivots_in}
use Rattle.gauss.proofs.clash.add_pivot_sums.Given as goal

abbrev pub invariant-loop-p : goal.invariant-loop-p
invariant-loop-p l = (t : ℕ) → t < length l.initial.sum
    → get_or l.sum t 0 ≡ bit_xor (get_or l.initial.sum t 0)
    (product 0 bit_xor l.p (bits_in l.form l.r)
    (λ p. sum_byte l.sums t (pivots_in l.form p)))
