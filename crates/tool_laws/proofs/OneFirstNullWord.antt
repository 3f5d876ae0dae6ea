-- At most one null word is the first, of whatever matrix.
use Rattle.std.proofs.Common.{le_antisymm, true≢false, ⊎_elim, ◌≡◌, ℕ, ◌%◌, ◌<◌, ◌≤◌, Bool, true}
use Rattle.std.proofs.Common.{false, List, [], get_or, count_by, refl, sym, ap, ap₂, ◌∙◌}
use Rattle.std.specs.List.{range_with_len}
use Rattle.std.proofs.Math.Bool.{xor as bool_xor}
use Rattle.std.proofs.lemmas.Bool.{false_from_ne_true}
use Rattle.std.proofs.lemmas.List.Elements.{All-from_get_or}
use Rattle.sparse_rows.specs.Matrix.{Matrix, is_in}
use Rattle.sparse_rows.specs.Closure.{Set, members}
use Rattle.sparse_rows.specs.NullWord.{IsNullWord, IsFirstNullWord, last_of}
use Rattle.sparse_rows.proofs.Algebra.{total_add, total_same}
use Rattle.sparse_rows.proofs.Parity.{bit_laws, even_from}
use Rattle.sparse_rows.proofs.Sets.{same_test, true_or_false}
use Rattle.sparse_rows.proofs.Null.{all_from_in, in_all, members_below, members_in, members_rise}
use Rattle.sparse_rows.proofs.Null.{null_even, null_outside, passes}
use Rattle.sparse_rows.proofs.Increasing.{rising_same}
use Rattle.null_witness.proofs.First.{xor_one}
use Rattle.null_witness.proofs.Increasing.{last_in, last_most}

equal_bits : (x y : Bool) → bool_xor x y ≡ false → x ≡ y
unfolding bool_xor
equal_bits true true e = refl
equal_bits true false e = absurd (true≢false e)
equal_bits false true e = absurd (true≢false e)
equal_bits false false e = refl

module _ (m : Matrix) (s : Set) (a b : List ℕ) (first : IsNullWord m s a)
    (second : IsNullWord m s b) where
  -- the columns of one of the two words alone
  abbrev pub sum : Set
  sum c = bool_xor (is_in a c) (is_in b c)

  sum_below : (c : ℕ) → sum c ≡ true → c < m.n
  sum_below c e = ⊎_elim (λ f. in_all (λ d. d < m.n) a first.below c f.0)
      (λ f. in_all (λ d. d < m.n) b second.below c f.1) (xor_one _ _ e)

  listed : (c : ℕ) → is_in (members m.n sum) c ≡ sum c
  listed c = same_test _ _ (passes sum (range_with_len 0 m.n) c)
      (λ e. members_in m.n sum c (sum_below c e) e)

  sum_outside : (c : ℕ) → s c ≡ true → sum c ≡ false
  sum_outside c e = ap₂ bool_xor (null_outside m s a first c e) (null_outside m s b second c e)
      ∙ bit_laws.self false

  -- are a null word, if there are any
  pub sum_null : (c : ℕ) → sum c ≡ true → IsNullWord m s (members m.n sum)
  sum_null c e = record {
    rising = members_rise m.n sum;
    below = members_below m.n sum;
    nonempty = λ none. true≢false (sym (listed c ∙ e) ∙ ap (λ z. is_in z c) none);
    outside = all_from_in (λ d. s d ≡ false) (members m.n sum)
        (λ d f. false_from_ne_true (s d) (λ g. true≢false (sym (sym (listed d) ∙ f)
        ∙ sum_outside d g)));
    even = All-from_get_or (λ row. count_by (is_in (members m.n sum)) row % 2 ≡ 0) m.rows []
        (λ i lt.
        even_from (is_in (members m.n sum)) (get_or m.rows i []) (total_same false bool_xor bit_laws
        (is_in (members m.n sum)) sum (get_or m.rows i []) (λ j d lt2. listed _)
        ∙ total_add false bool_xor bit_laws (is_in a) (is_in b) (get_or m.rows i [])
        ∙ ap₂ bool_xor (null_even m s a first i lt) (null_even m s b second i lt)
        ∙ bit_laws.self false));
  }

module _ (m : Matrix) (s : Set) (a b : List ℕ) (first : IsFirstNullWord m s a)
    (second : IsFirstNullWord m s b) where
  alone : Set
  alone c = bool_xor (is_in a c) (is_in b c)

  same_last : last_of a ≡ last_of b
  same_last = le_antisymm (first.least b second.null) (second.least a first.null)

  alone_null : (c : ℕ) → alone c ≡ true → IsNullWord m s (members m.n alone)
  unfolding alone
  alone_null c e = sum_null m s a b first.null second.null c e

  -- a sum of words with one last column ends before it, so it has no column where none ends earlier
  differ : (c : ℕ) → alone c ≡ true → ⊥
  unfolding alone
  differ c e =
      let word : List ℕ = members m.n alone in
      let ends : alone (last_of word) ≡ true = passes alone (range_with_len 0 m.n) _
      (last_in word (alone_null c e).nonempty) in
      let most : last_of word ≤ last_of a =
      ⊎_elim (λ f. last_most a first.null.rising (last_of word) f.0)
      (λ f. rw same_last (last_most b second.null.rising (last_of word) f.1))
      (xor_one _ _ ends) in
      let same : last_of word ≡ last_of a = le_antisymm most (first.least word (alone_null c e)) in
      let in_a : is_in a (last_of word) ≡ true = rw same (last_in a first.null.nonempty) in
      let in_b : is_in b (last_of word) ≡ true =
      rw (same, same_last) (last_in b second.null.nonempty) in
      ⊎_elim (λ f. true≢false (sym in_b ∙ f.1)) (λ f. true≢false (sym in_a ∙ f.0))
      (xor_one _ _ ends)

  pub first_one : a ≡ b
  unfolding alone
  first_one = rising_same a b first.null.rising second.null.rising
      (λ c. ⊎_elim (λ e. absurd (differ c e)) (λ e. equal_bits _ _ e) (true_or_false (alone c)))
