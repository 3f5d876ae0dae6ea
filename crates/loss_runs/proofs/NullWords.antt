-- Whether there is a null word.
use Rattle.std.proofs.Common.{◌≡◌, ◌≢◌, ℕ, ◌+◌, ◌%◌, ◌<◌, ◌≤◌, ◌⊎◌, inl, inr, ⊎_elim, Bool, true}
use Rattle.std.proofs.Common.{false, not, ◌&&◌, ◌==◌, List, [], ◌∷◌, length, map, All, count_by}
use Rattle.std.proofs.Common.{Decides, refl, sym, ◌∙◌, subst, arith}
use Rattle.std.specs.List.{range_with_len}
use Rattle.std.proofs.lemmas.Bool.{cases_lt, false_from_ne_true}
use Rattle.std.proofs.lemmas.Bool.Decides.{Decides-by_and, Decides-eqb}
use Rattle.std.proofs.lemmas.List.FromFn.{get_or-map-range_with_len, length-map-range_with_len}
use Rattle.sparse_rows.specs.Matrix.{Matrix, is_in}
use Rattle.sparse_rows.specs.Closure.{Set, flagged, members}
use Rattle.sparse_rows.specs.NullWord.{IsNullWord}
use Rattle.sparse_rows.proofs.Increasing.{rising_same}
use Rattle.sparse_rows.proofs.Null.{in_all, members_below, members_rise, members_same}
use Rattle.loss_runs.proofs.Searches.{holds_or_not, some_bits}

-- ---- a test of one list

-- whether each item passes
abbrev each : {X : Type 0} → (X → Bool) → List X → Bool
each test [] = true
each test (x ∷ xs) = test x && each test xs

decided : {X : Type 0} (P : X → Type 0) (test : X → Bool) → ((x : X) → Decides (test x) (P x))
    → (xs : List X) → All P xs ⊎ (¬ All P xs)
decided P test decides xs = holds_or_not (All P xs) (each test xs)
    (Decides-by_and test P (each test) decides refl (λ _ _. refl) xs)

-- both hold, or not both do
both : (P Q : Type 0) → P ⊎ (¬ P) → Q ⊎ (¬ Q) → (P × Q) ⊎ (¬ (P × Q))
both P Q (inl p) (inl q) = inl (p, q)
both P Q (inl p) (inr no_q) = inr (λ h. no_q h.1)
both P Q (inr no_p) second = inr (λ h. no_p h.0)

nonempty : (word : List ℕ) → (word ≢ []) ⊎ (¬ (word ≢ []))
nonempty [] = inr (λ h. h refl)
nonempty (c ∷ word) = inl (λ same. cc)

is_false : (b : Bool) → Decides (not b) (b ≡ false)
is_false true = (λ e. absurd (cc), λ e. absurd (cc))
is_false false = (λ e. refl, λ e. refl)

-- ---- a search of all lists of columns

module _ (m : Matrix) (s : Set) where
  -- what makes a rising list of columns a null word
  abbrev Nulls : List ℕ → Type 0
  Nulls word = (word ≢ []) × (All (λ c. s c ≡ false) word
      × All (λ row. count_by (is_in word) row % 2 ≡ 0) m.rows)

  nulls_or_not : (word : List ℕ) → Nulls word ⊎ (¬ Nulls word)
  nulls_or_not word = both (word ≢ []) _ (nonempty word)
      (both (All (λ c. s c ≡ false) word) (All (λ row. count_by (is_in word) row % 2 ≡ 0) m.rows)
      (decided (λ c. s c ≡ false) (λ c. not (s c)) (λ c. is_false (s c)) word)
      (decided (λ row. count_by (is_in word) row % 2 ≡ 0)
      (λ row. count_by (is_in word) row % 2 == 0)
      (λ row. Decides-eqb (count_by (is_in word) row % 2) 0) m.rows))

  -- the columns whose truth value is set
  abbrev columns : List Bool → List ℕ
  columns bits = members m.n (flagged bits)

  is_null : (bits : List Bool) → Nulls (columns bits) → IsNullWord m s (columns bits)
  is_null bits nulls = record {
    rising = members_rise m.n (flagged bits);
    below = members_below m.n (flagged bits);
    nonempty = nulls.0;
    outside = nulls.1.0;
    even = nulls.1.1;
  }

  -- a null word as truth values
  abbrev bits_of : List ℕ → List Bool
  bits_of word = map (is_in word) (range_with_len 0 m.n)

  bit_is : (word : List ℕ) (c : ℕ) → c < m.n → flagged (bits_of word) c ≡ is_in word c
  bit_is word c lt =
      get_or-map-range_with_len (is_in word) 0 m.n c c false lt (let e : 0 + c ≡ c = omega arith in
      e)

  -- no column of it is past the end
  none_past : (word : List ℕ) → All (λ c. c < m.n) word → (c : ℕ) → m.n ≤ c → is_in word c ≡ false
  none_past word below c le = false_from_ne_true (is_in word c)
      (λ e. let lt : c < m.n = in_all (λ d. d < m.n) word below c e in absurd (omega arith))

  columns_are : (word : List ℕ) → IsNullWord m s word → columns (bits_of word) ≡ word
  columns_are word null = rising_same (columns (bits_of word)) word
      (members_rise m.n (flagged (bits_of word))) null.rising (λ c. ⊎_elim
      (λ (lt : c < m.n). members_same m.n (flagged (bits_of word)) c lt ∙ bit_is word c lt)
      (λ (le : m.n ≤ c). none_past (columns (bits_of word))
      (members_below m.n (flagged (bits_of word))) c le ∙ sym (none_past word null.below c le))
      (cases_lt c m.n))

  -- there is a null word, or there is none
  pub null_or_none : ((word : List ℕ) × IsNullWord m s word) ⊎ ((word : List ℕ)
      → ¬ IsNullWord m s word)
  null_or_none = ⊎_elim
      (λ (f : (bits : List Bool) × Nulls (columns bits)). inl (columns f.0, is_null f.0 f.1))
      (λ (none : (bits : List Bool) → length bits ≡ m.n → ¬ Nulls (columns bits)). inr (λ word null.
      none (bits_of word) (length-map-range_with_len (is_in word) 0 m.n)
      (subst Nulls (sym (columns_are word null)) (null.nonempty, (null.outside, null.even)))))
      (some_bits m.n (λ bits. Nulls (columns bits)) (λ bits. nulls_or_not (columns bits)))
