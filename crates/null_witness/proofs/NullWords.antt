-- The null words of a set of columns sum to null words, and it can be told where one ends.
use Rattle.std.proofs.Common.{◌≡◌, ◌≢◌, ℕ, ◌<◌, ◌⊎◌, inl, inr, ⊎_elim, Bool, false}
use Rattle.std.proofs.Common.{List, [], ◌∷◌, get_or, All, refl, sym, ap, ap₂, ◌∙◌, true≢false}
use Rattle.std.specs.List.{list_any}
use Rattle.std.specs.List.Sorted.{IsStrictlyIncreasing}
use Rattle.std.proofs.Math.Bool.{xor as bool_xor}
use Rattle.std.proofs.lemmas.Bool.{false_from_ne_true}
use Rattle.sparse_rows.specs.Matrix.{Matrix, is_in}
use Rattle.sparse_rows.specs.Closure.{Set, members}
use Rattle.sparse_rows.specs.NullWord.{IsNullWord}
use Rattle.sparse_rows.proofs.Algebra.{total_add, total_same}
use Rattle.sparse_rows.specs.Totals.{total}
use Rattle.sparse_rows.proofs.Parity.{bit_laws, even_from, even_to}
use Rattle.sparse_rows.proofs.Null.{all_from_in, in_all, members_below, members_rise, null_even}
use Rattle.sparse_rows.proofs.Sets.{any_at, any_from, true_or_false}
use Rattle.sparse_rows.proofs.Increasing.{rising_same}
use Rattle.null_witness.specs.ReducedWords.{IsLate}
use Rattle.null_witness.specs.LinearFamilies.{IsSumOf, IsLinear}
use Rattle.null_witness.proofs.First.{xor_one, xor_same}
use Rattle.null_witness.proofs.ReducedWords.{decide_late, sum_either}

module _ (m : Matrix) (s : Set) where
  -- the sum of two null words is one
  null_sum : (a b word : List ℕ) → IsNullWord m s a → IsNullWord m s b → a ≢ b → IsSumOf a b word
      → IsNullWord m s word
  null_sum a b word ha hb differ sum = record {
    rising = sum.rising;
    below = all_from_in (λ c. c < m.n) word (λ c e. ⊎_elim
        (λ f. in_all (λ d. d < m.n) a ha.below c f.0)
        (λ f. in_all (λ d. d < m.n) b hb.below c f.1)
        (xor_one _ _ (sym (at c) ∙ e)));
    nonempty = λ none. differ (rising_same a b ha.rising hb.rising
        (λ c. xor_same _ _ (sym (at c) ∙ ap (λ w. is_in w c) none)));
    outside = all_from_in (λ c. s c ≡ false) word (λ c e. ⊎_elim
        (λ f. in_all (λ d. s d ≡ false) a ha.outside c f.0)
        (λ f. in_all (λ d. s d ≡ false) b hb.outside c f.1)
        (xor_one _ _ (sym (at c) ∙ e)));
    even = λ i d lt. even_from (is_in word) (get_or m.rows i d)
        (total_same false bool_xor bit_laws (is_in word) (λ c. bool_xor (is_in a c) (is_in b c))
        (get_or m.rows i d) (λ k z lt2. at _)
        ∙ total_add false bool_xor bit_laws (is_in a) (is_in b) (get_or m.rows i d)
        ∙ ap₂ bool_xor (even_to (is_in a) _ (ha.even i d lt)) (even_to (is_in b) _ (hb.even i d lt))
        ∙ bit_laws.self false);
  }
    where
      at : (c : ℕ) → is_in word c ≡ bool_xor (is_in a c) (is_in b c)
      at = sum_either a b word sum

  pub null_linear : IsLinear (IsNullWord m s)
  null_linear = record {
    rising = λ word null. null.rising;
    nonempty = λ word null. null.nonempty;
    sums = null_sum;
  }

  -- whether the row has an odd number of the word's columns
  abbrev odd : List ℕ → List ℕ → Bool
  odd w row = total false bool_xor (is_in w) row

  -- whether the members of a set are a null word
  decide_null : (v : Set)
      → IsNullWord m s (members m.n v) ⊎ (IsNullWord m s (members m.n v) → ⊥)
  decide_null v = by_case (members m.n v) (members_rise m.n v) (members_below m.n v)
    where
      by_case : (w : List ℕ) → IsStrictlyIncreasing w → All (λ c. c < m.n) w
          → IsNullWord m s w ⊎ (IsNullWord m s w → ⊥)
      by_case [] rising below = inr (λ null. null.nonempty refl)
      by_case (c ∷ cs) rising below = ⊎_elim
          (λ e. let r = any_at s 0 (c ∷ cs) e in
          inr (λ null. true≢false (sym r.2 ∙ null.outside r.0 0 r.1)))
          (λ e. ⊎_elim
          (λ f. let r = any_at (odd (c ∷ cs)) [] m.rows f in
          inr (λ null. true≢false (sym r.2 ∙ null_even m s (c ∷ cs) null r.0 r.1)))
          (λ f. inl (record {
            rising = rising;
            below = below;
            nonempty = λ z. cc;
            outside = λ i d lt. false_from_ne_true _
                (λ g. true≢false (sym (any_from s d (c ∷ cs) i lt g) ∙ e));
            even = λ i d lt. even_from (is_in (c ∷ cs)) _ (false_from_ne_true _
                (λ g. true≢false (sym (any_from (odd (c ∷ cs)) d m.rows i lt g) ∙ f)));
          }))
          (true_or_false (list_any (odd (c ∷ cs)) m.rows)))
          (true_or_false (list_any s (c ∷ cs)))

  -- whether a null word ends at a position
  pub null_decided : (p : ℕ)
      → IsLate (IsNullWord m s) p ⊎ (IsLate (IsNullWord m s) p → ⊥)
  null_decided = decide_late (IsNullWord m s) null_linear m.n (λ w null. null.below) decide_null
