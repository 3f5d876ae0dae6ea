-- Null words as sets of columns.
use Rattle.std.proofs.Common.{true≢false, ⊎_elim, ◌≡◌, ℕ, ◌+◌, ◌%◌, ◌<◌, Bool, true, false, ◌==◌}
use Rattle.std.proofs.Common.{List, [], ◌∷◌, length, get_or, filter, All, Any, count_by, refl, sym}
use Rattle.std.proofs.Common.{ap, ◌∙◌, subst, arith, eqb-true, eq-eqb, suc-le-suc, zero-le}
use Rattle.std.proofs.Common.{zero-add, lt-ltb, ltb-true, ltb}
use Rattle.std.specs.List.{list_any, range_with_len}
use Rattle.std.specs.List.Sorted.{IsStrictlyIncreasing}
use Rattle.std.proofs.Math.Bool.{xor as bool_xor}
use Rattle.std.proofs.lemmas.Bool.{false_from_ne_true}
use Rattle.std.proofs.lemmas.Grind.{get_or_default_zero}
use Rattle.std.proofs.lemmas.List.FromFn.{get_or-range_with_len, length-range_with_len}
use Rattle.std.proofs.lemmas.List.Kept.{IsStrictlyIncreasing-filter}
use Rattle.std.proofs.lemmas.List.Elements.{All-filter, All-from_get_or}
use Rattle.sparse_rows.specs.Matrix.{Matrix, HasShape, is_in}
use Rattle.sparse_rows.specs.Closure.{Set, members}
use Rattle.sparse_rows.specs.NullWord.{IsNullWord}
use Rattle.sparse_rows.proofs.Algebra.{total_zero, total_same}
use Rattle.sparse_rows.specs.Totals.{total}
use Rattle.sparse_rows.proofs.Parity.{bit_laws, even_from, even_to}
use Rattle.sparse_rows.proofs.Sets.{any_at, any_from, same_test, true_or_false, or_cases, or_first}
use Rattle.sparse_rows.proofs.Sets.{or_second}
use Rattle.sparse_rows.proofs.Agree.{agree_source}

-- ---- a list's columns

pub in_at : (word : List ℕ) (i d : ℕ) → i < length word → is_in word (get_or word i d) ≡ true
in_at word i d lt = any_from (λ c. c == get_or word i d) d word i lt (eq-eqb _ _ refl)

pub all_from_in : (P : ℕ → Type 0) (word : List ℕ) → ((c : ℕ) → is_in word c ≡ true → P c)
    → All P word
all_from_in P word h i d lt = h (get_or word i d) (in_at word i d lt)

pub in_all : (P : ℕ → Type 0) (word : List ℕ) → All P word → (c : ℕ) → is_in word c ≡ true → P c
in_all P word h c e = let r = any_at (λ d. d == c) 0 word e in
    subst P (eqb-true _ _ r.2) (h r.0 0 r.1)

-- ---- the members of a set, as a list

pub in_filter : (p : Set) (xs : List ℕ) (c : ℕ) → is_in xs c ≡ true → p c ≡ true
    → is_in (filter p xs) c ≡ true
in_filter p [] c e f = e
in_filter p (x ∷ xs) c e f = ⊎_elim
    (λ h. let z : x ≡ c = eqb-true x c h in let g : p x ≡ true = ap p z ∙ f in
    rw g (or_first (x == c) _ h))
    (λ h. by_case (p x) refl (in_filter p xs c h f))
    (or_cases (x == c) (is_in xs c) e)
  where
    by_case : (b : Bool) → p x ≡ b → is_in (filter p xs) c ≡ true
        → is_in (filter p (x ∷ xs)) c ≡ true
    by_case true g ih = rw g (or_second (x == c) _ ih)
    by_case false g ih = rw g ih

in_range : (n c : ℕ) → c < n → is_in (range_with_len 0 n) c ≡ true
in_range n c lt = any_from (λ d. d == c) 0 (range_with_len 0 n) c (rw length-range_with_len lt)
    (eq-eqb _ _ (get_or-range_with_len 0 n c 0 lt ∙ zero-add c))

pub range_below : (n : ℕ) → All (λ c. c < n) (range_with_len 0 n)
range_below n i d lt = let lt2 : i < n = rw length-range_with_len at lt in
    rw (get_or-range_with_len 0 n i d lt2) (rw zero-add lt2)

pub members_in : (n : ℕ) (w : Set) (c : ℕ) → c < n → w c ≡ true → is_in (members n w) c ≡ true
members_in n w c lt e = in_filter w (range_with_len 0 n) c (in_range n c lt) e

pub members_below : (n : ℕ) (w : Set) → All (λ c. c < n) (members n w)
members_below n w = All-filter w (λ c. c < n) (range_with_len 0 n) (range_below n)

pub passes : (w : Set) (xs : List ℕ) (c : ℕ) → is_in (filter w xs) c ≡ true → w c ≡ true
passes w [] c e = absurd (cc)
passes w (x ∷ xs) c e = by_case (w x) refl (passes w xs c)
  where
    by_case : (b : Bool) → w x ≡ b → (is_in (filter w xs) c ≡ true → w c ≡ true) → w c ≡ true
    by_case true g ih = ⊎_elim (λ h. sym (ap w (eqb-true x c h)) ∙ g) ih
        (or_cases (x == c) _ (rw g at e))
    by_case false g ih = ih (rw g at e)

-- below n the list of the members has the set's columns
pub members_same : (n : ℕ) (w : Set) (c : ℕ) → c < n → is_in (members n w) c ≡ w c
members_same n w c lt = same_test _ _ (passes w (range_with_len 0 n) c) (members_in n w c lt)

pub members_rise : (n : ℕ) (w : Set) → IsStrictlyIncreasing (members n w)
members_rise n w = IsStrictlyIncreasing-filter w (range_with_len 0 n) range_rises
  where
    range_rises : IsStrictlyIncreasing (range_with_len 0 n)
    range_rises i lt = let lt2 : i + 1 < n = rw length-range_with_len at lt in
        rw (get_or-range_with_len 0 n i 0 (omega arith), get_or-range_with_len 0 n (i + 1) 0 lt2)
        (omega arith)

-- ---- null words and sets

pub null_outside : (m : Matrix) (s : Set) (word : List ℕ) → IsNullWord m s word → (c : ℕ)
    → s c ≡ true → is_in word c ≡ false
null_outside m s word null c e = false_from_ne_true (is_in word c)
    (λ f. true≢false (sym e ∙ in_all (λ d. s d ≡ false) word null.outside c f))

pub null_even : (m : Matrix) (s : Set) (word : List ℕ) → IsNullWord m s word → (i : ℕ)
    → i < length m.rows → total false bool_xor (is_in word) (get_or m.rows i []) ≡ false
null_even m s word null i lt = even_to (is_in word) (get_or m.rows i []) (null.even i [] lt)

-- a null word has a column
pub null_column : (m : Matrix) (s : Set) (word : List ℕ) → IsNullWord m s word
    → (c : ℕ) × (is_in word c ≡ true) × (c < m.n)
null_column m s [] null = absurd (null.nonempty refl)
null_column m s (c ∷ word) null =
    (c, or_first (c == c) _ (eq-eqb c c refl), null.below 0 0 (suc-le-suc zero-le))

-- a set with a column below n, that has no member of s and meets each row evenly, is a null word of
-- s
pub null_of : (m : Matrix) → ((i : ℕ) → i < length m.rows → All (λ d. d < m.n) (get_or m.rows i []))
    → (s w : Set) (c : ℕ) → c < m.n → w c ≡ true → ((d : ℕ) → s d ≡ true → w d ≡ false)
    → ((i : ℕ) → i < length m.rows → total false bool_xor w (get_or m.rows i []) ≡ false)
    → IsNullWord m s (members m.n w)
null_of m rows_below s w c lt e outside even = record {
  rising = members_rise m.n w;
  below = members_below m.n w;
  nonempty = λ none. true≢false (sym (members_in m.n w c lt e) ∙ ap (λ z. is_in z c) none);
  outside = all_from_in (λ d. s d ≡ false) (members m.n w)
      (λ d f. false_from_ne_true (s d) (λ g. true≢false (sym (passes w (range_with_len 0 m.n) d f)
      ∙ outside d g)));
  even = All-from_get_or (λ row. count_by (is_in (members m.n w)) row % 2 ≡ 0) m.rows [] (λ i lt2.
      even_from (is_in (members m.n w)) (get_or m.rows i []) (total_same false bool_xor bit_laws
      (is_in (members m.n w)) w (get_or m.rows i [])
      (λ j d lt3. members_same m.n w _ (rows_below i lt2 j d lt3)) ∙ even i lt2));
}

-- a null word has a source column
pub null_source : (m : Matrix) → HasShape m → (s : Set) (word : List ℕ) → IsNullWord m s word
    → Any (λ c. c < m.k) word
null_source m shape s word null = ⊎_elim
    (λ e. let r = any_at (λ c. ltb c m.k) 0 word e in
    (r.0, get_or word r.0 0, r.1, get_or_default_zero word r.0 _ r.1, ltb-true _ _ r.2))
    (λ e. let r = null_column m s word null in
    absurd (true≢false (sym r.1 ∙ agree_source false bool_xor bit_laws m shape (is_in word)
    (λ c. false)
    (λ i lt. null_even m s word null i lt ∙ sym (total_zero false bool_xor bit_laws _)) (none e) r.0
    r.2)))
    (true_or_false (list_any (λ c. ltb c m.k) word))
  where
    none : list_any (λ c. ltb c m.k) word ≡ false → (c : ℕ) → c < m.k → is_in word c ≡ false
    none e c lt = false_from_ne_true (is_in word c) (λ f.
        let r = any_at (λ d. d == c) 0 word f in
        let z : get_or word r.0 0 ≡ c = eqb-true _ _ r.2 in
        true≢false (sym (any_from (λ d. ltb d m.k) 0 word r.0 r.1 (lt-ltb _ _ (rw z lt))) ∙ e))
