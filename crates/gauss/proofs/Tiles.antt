-- Values that are worked out some bytes at a time.
use Rattle.std.proofs.Common.{◌≡◌, ℕ, ◌+◌, ◌-◌, ◌<◌, ◌≤◌, List, sym, ap, ap₂, ◌∙◌, subst, arith}
use Rattle.std.proofs.Common.{bit_xor}
use Rattle.sparse_rows.specs.Closure.{Set}
use Rattle.sparse_rows.proofs.Planes.{byte_laws}
use Rattle.gauss.specs.Packed.{byte_in, sum_byte}
use Rattle.gauss.specs.Elimination.{AreSubstituted, IsValue, before, behind, product}
use Rattle.gauss.proofs.Lists.{product_of_same}

module _ (u len : ℕ) (bits : ℕ → Set) (pivot_row : ℕ → ℕ) (sums : List (List ℕ)) where
  -- what stands in a tile after back substitution are bytes of the values
  pub tile_value : (start size : ℕ) (first part values : List ℕ)
      → ((p t : ℕ) → p < u → t < size → byte_in size first t p ≡ sum_byte sums (start + t)
      (pivot_row p)) → AreSubstituted u size bits pivot_row first part
      → ((p t : ℕ) → p < u → t < size → byte_in len values (start + t) p ≡ byte_in size part t p)
      → (p t : ℕ) → p < u → start ≤ t → t < start + size
      → IsValue u len bits pivot_row sums values p t
  tile_value start size first part values taken done given p t lt le lt2 =
      subst (IsValue u len bits pivot_row sums values p) place
      (given p k lt low ∙ done p k lt low ∙ ap₂ bit_xor (ap₂ bit_xor (taken p k lt low)
      (product_of_same 0 bit_xor byte_laws u (before bits pivot_row p) (byte_in size first k)
      (λ c. sum_byte sums (start + k) (pivot_row c)) (λ c lt3. taken c k lt3 low)))
      (product_of_same 0 bit_xor byte_laws u (behind bits pivot_row p) (byte_in size part k)
      (byte_in len values (start + k)) (λ c lt3. sym (given c k lt3 low))))
    where
      k : ℕ
      k = t - start

      place : start + k ≡ t
      place = omega (arith, le)

      low : k < size
      low = omega (arith, le, lt2)

  -- bytes that stay are still bytes of the values
  pub value_kept : (old now : List ℕ) (t : ℕ)
      → ((c : ℕ) → c < u → byte_in len now t c ≡ byte_in len old t c) → (p : ℕ) → p < u
      → IsValue u len bits pivot_row sums old p t → IsValue u len bits pivot_row sums now p t
  value_kept old now t same p lt is = same p lt ∙ is
      ∙ ap (bit_xor (bit_xor (sum_byte sums t (pivot_row p))
      (product 0 bit_xor u (before bits pivot_row p) (λ c. sum_byte sums t (pivot_row c)))))
      (product_of_same 0 bit_xor byte_laws u (behind bits pivot_row p) (byte_in len old t)
      (byte_in len now t) (λ c lt2. sym (same c lt2)))
