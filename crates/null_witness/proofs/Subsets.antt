-- Null words of sets that lie within one another.
use Rattle.std.proofs.Common.{true≢false, ◌≡◌, ℕ, true, false, List, sym, ◌∙◌}
use Rattle.std.proofs.Math.Bool.{xor as bool_xor}
use Rattle.std.proofs.lemmas.Bool.{false_from_ne_true}
use Rattle.sparse_rows.specs.Matrix.{Matrix, is_in}
use Rattle.sparse_rows.specs.Closure.{Set, IsWithin, closure}
use Rattle.sparse_rows.specs.NullWord.{IsNullWord}
use Rattle.sparse_rows.proofs.Algebra.{total_zero}
use Rattle.sparse_rows.proofs.Parity.{bit_laws}
use Rattle.sparse_rows.proofs.Closed.{agree_closure}
use Rattle.sparse_rows.proofs.Null.{all_from_in, in_all, null_even, null_outside}

-- a null word of a set is one of each subset
pub null_subset : (m : Matrix) (small large : Set) (word : List ℕ) → IsWithin small large
    → IsNullWord m large word → IsNullWord m small word
null_subset m small large word h null = record {
  rising = null.rising;
  below = null.below;
  nonempty = null.nonempty;
  even = null.even;
  outside = all_from_in (λ d. small d ≡ false) word (λ d f. false_from_ne_true (small d)
      (λ g. true≢false (sym (h d g) ∙ in_all (λ e. large e ≡ false) word null.outside d f)));
}

-- a null word has no column in the closure
pub null_closure : (m : Matrix) (s : Set) (word : List ℕ) → IsNullWord m s word
    → IsNullWord m (closure m s) word
null_closure m s word null = record {
  rising = null.rising;
  below = null.below;
  nonempty = null.nonempty;
  even = null.even;
  outside = all_from_in (λ d. closure m s d ≡ false) word (λ d f. false_from_ne_true (closure m s d)
      (λ g. true≢false (sym f ∙ not_in d g)));
}
  where
    not_in : (d : ℕ) → closure m s d ≡ true → is_in word d ≡ false
    not_in = agree_closure false bool_xor bit_laws m s (is_in word) (λ c. false)
        (λ i lt within. null_even m s word null i lt ∙ sym (total_zero false bool_xor bit_laws _))
        (null_outside m s word null)
