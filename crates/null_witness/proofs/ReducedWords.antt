-- Words of which each two sum to another: each late position has exactly one reduced word.
use mathlib.Core.Path.{fun_ext}
use Rattle.std.proofs.Common.{◌≡◌, ℕ, zero, suc, ◌+◌, ◌<◌, ◌≤◌, ◌⊎◌, inl, inr, ⊎_elim, Bool}
use Rattle.std.proofs.Common.{true, false, ◌&&◌, ◌||◌, not, ◌==◌, List, All, refl, sym, ap}
use Rattle.std.proofs.Common.{ap₂, ◌∙◌, subst, arith, true≢false, eqb-true, eq-eqb, le_antisymm}
use Rattle.std.proofs.Common.{le_refl, lt-suc_self, zero-le}
use Rattle.std.specs.List.Sorted.{IsStrictlyIncreasing}
use Rattle.std.proofs.Math.Bool.{xor as bool_xor}
use Rattle.std.proofs.lemmas.Bool.{cases_lt, false_from_ne_true, ne_eqb}
use Rattle.sparse_rows.specs.Closure.{Set, members, adding}
use Rattle.sparse_rows.specs.Matrix.{is_in}
use Rattle.sparse_rows.specs.NullWord.{last_of}
use Rattle.sparse_rows.proofs.Null.{in_all, members_below, members_rise, members_same}
use Rattle.sparse_rows.proofs.Parity.{bit_laws}
use Rattle.sparse_rows.proofs.Sets.{true_or_false, or_none, or_true}
use Rattle.sparse_rows.proofs.Shape.{last_or_before}
use Rattle.sparse_rows.proofs.Increasing.{rising_same}
use Rattle.null_witness.specs.ReducedWords.{IsLate, IsReducedWord}
use Rattle.null_witness.specs.LinearFamilies.{just_one, IsSumOf, IsLinear}
use Rattle.null_witness.specs.ReducedWords.{IsFirstReducedWord}
use Rattle.null_witness.proofs.First.{xor_one, xor_same}
use Rattle.null_witness.proofs.Increasing.{last_in, last_most}

-- exactly one of two facts is their sum as bits
pub just_one_is : (x y : Bool) → just_one x y ≡ bool_xor x y
unfolding bool_xor
just_one_is true true = refl
just_one_is true false = refl
just_one_is false true = refl
just_one_is false false = refl

pub sum_either : (a b word : List ℕ) → IsSumOf a b word → (c : ℕ)
    → is_in word c ≡ bool_xor (is_in a c) (is_in b c)
sum_either a b word sum c = sum.either c ∙ just_one_is (is_in a c) (is_in b c)

-- a list holds nothing past its last column
pub none_past : (word : List ℕ) → IsStrictlyIncreasing word → (c : ℕ) → last_of word < c
    → is_in word c ≡ false
none_past word rising c lt = false_from_ne_true _
    (λ e. let le : c ≤ last_of word = last_most word rising c e in omega arith)

-- ---- the sum of two lists

abbrev pub sum_set : List ℕ → List ℕ → Set
sum_set a b c = bool_xor (is_in a c) (is_in b c)

pub sum_list : List ℕ → List ℕ → List ℕ
sum_list a b = members (suc (last_of a + last_of b)) (sum_set a b)

pub sum_list_is : (a b : List ℕ) → IsStrictlyIncreasing a → IsStrictlyIncreasing b
    → IsSumOf a b (sum_list a b)
unfolding sum_list
sum_list_is a b ra rb = record {
  rising = members_rise n (sum_set a b);
  either = λ c. ⊎_elim (members_same n (sum_set a b) c)
      (λ le. false_from_ne_true _
      (λ e. let lt : c < n = in_all (λ d. d < n) (members n (sum_set a b))
      (members_below n (sum_set a b)) c e in omega arith)
      ∙ sym (ap₂ bool_xor (none_past a ra c (omega arith)) (none_past b rb c (omega arith))
      ∙ bit_laws.self false)) (cases_lt c n)
      ∙ sym (just_one_is (is_in a c) (is_in b c));
}
  where
    n : ℕ
    n = suc (last_of a + last_of b)

-- ---- either some set of columns below n is of a kind, or none is

abbrev pub IsBelow : ℕ → Set → Type 0
IsBelow n v = (c : ℕ) → n ≤ c → v c ≡ false

without : ℕ → Set → Set
without n v c = v c && not (n == c)

with_without : (n : ℕ) (v : Set) → v n ≡ true → adding n (without n v) ≡ v
unfolding without
with_without n v e = fun_ext (λ c. by_case c (n == c) refl)
  where
    by_case : (c : ℕ) (t : Bool) → (n == c) ≡ t → ((v c && not (n == c)) || (n == c)) ≡ v c
    by_case c true f = rw f (or_true (v c && false)
        ∙ sym (subst (λ d. v d ≡ true) (eqb-true n c f) e))
    by_case c false f = rw f (or_none (v c && true) ∙ and_true (v c))
      where
        and_true : (b : Bool) → (b && true) ≡ b
        and_true true = refl
        and_true false = refl

below_less : (n : ℕ) (v : Set) → IsBelow (suc n) v → v n ≡ false → IsBelow n v
below_less n v h e c le = ⊎_elim
    (λ lt. ⊎_elim (λ z. rw z e) (λ lt2. absurd (omega arith)) (last_or_before c n lt)) (h c)
    (cases_lt c (suc n))

without_below : (n : ℕ) (v : Set) → IsBelow (suc n) v → IsBelow n (without n v)
unfolding without
without_below n v h c le = by_case (n == c) refl
  where
    by_case : (t : Bool) → (n == c) ≡ t → (v c && not (n == c)) ≡ false
    by_case true f = rw f (and_false (v c))
      where
        and_false : (b : Bool) → (b && false) ≡ false
        and_false true = refl
        and_false false = refl
    by_case false f = rw (h c (omega (arith, λ (z : n ≡ c). true≢false (sym (eq-eqb n c z) ∙ f))))
        refl

with_below : (n : ℕ) (v : Set) → IsBelow n v → IsBelow (suc n) (adding n v)
with_below n v h c le = rw (h c (omega arith), ne_eqb n c (λ e. omega arith)) refl

pub search_sets : (n : ℕ) (P : Set → Type 0) → ((v : Set) → P v ⊎ (P v → ⊥))
    → ((v : Set) × IsBelow n v × P v) ⊎ ((v : Set) → IsBelow n v → P v → ⊥)
search_sets zero P choose = ⊎_elim (λ p. inl ((λ c. false), (λ c le. refl), p))
    (λ none. inr (λ v h p. none (subst P (fun_ext (λ c. h c zero-le)) p))) (choose (λ c. false))
search_sets (suc n) P choose = ⊎_elim
    (λ r. ⊎_elim (λ p. inl (r.0, (λ c le. r.1 c (omega arith)), p))
    (λ p. inl (adding n r.0, with_below n r.0 r.1, p)) r.2)
    (λ none. inr (λ v h p. ⊎_elim
    (λ e. none (without n v) (without_below n v h) (inr (subst P (sym (with_without n v e)) p)))
    (λ e. none v (below_less n v h e) (inl p)) (true_or_false (v n))))
    (search_sets n (λ v. P v ⊎ P (adding n v))
    (λ v. ⊎_elim (λ p. inl (inl p))
    (λ none. ⊎_elim (λ p. inl (inr p)) (λ none2. inr (λ q. ⊎_elim none none2 q))
    (choose (adding n v))) (choose v)))

-- the least number below n of a kind, or none
pub least_below : (P : ℕ → Type 0) → ((i : ℕ) → P i ⊎ (P i → ⊥)) → (n : ℕ)
    → ((i : ℕ) × P i × ((j : ℕ) → P j → i ≤ j)) ⊎ ((i : ℕ) → i < n → P i → ⊥)
least_below P choose zero = inr (λ i lt. absurd (omega arith))
least_below P choose (suc n) = ⊎_elim inl (λ none. ⊎_elim
    (λ p. inl (n, p, λ j q. ⊎_elim (λ lt. absurd (none j lt q)) (λ le. le) (cases_lt j n)))
    (λ not_n. inr (λ i lt. ⊎_elim (λ e q. not_n (subst P e q)) (none i) (last_or_before i n lt)))
    (choose n)) (least_below P choose n)

-- ---- reduced words

module _ (words : List ℕ → Type 0) (linear : IsLinear words) where
  sum_in : (a b : List ℕ) → words a → words b → (c : ℕ) → bool_xor (is_in a c) (is_in b c) ≡ true
      → words (sum_list a b)
  sum_in a b ha hb c e = linear.sums a b (sum_list a b) ha hb
      (λ same. true≢false (sym e ∙ ap (λ w. bool_xor (is_in w c) (is_in b c)) same
      ∙ bit_laws.self (is_in b c)))
      (sum_list_is a b (linear.rising a ha) (linear.rising b hb))

  sum_at : (a b : List ℕ) → words a → words b → (c : ℕ) → is_in (sum_list a b) c ≡ bool_xor
      (is_in a c) (is_in b c)
  sum_at a b ha hb = sum_either a b (sum_list a b)
      (sum_list_is a b (linear.rising a ha) (linear.rising b hb))

  -- at most one reduced word ends at a position
  pub reduced_is_one : (a b : List ℕ) → IsReducedWord words a → IsReducedWord words b
      → last_of a ≡ last_of b → a ≡ b
  reduced_is_one a b ra rb same = rising_same a b (linear.rising a ra.one) (linear.rising b rb.one)
      (λ c. ⊎_elim (λ e. absurd (differ c e)) (xor_same _ _)
      (true_or_false (bool_xor (is_in a c) (is_in b c))))
    where
      differ : (c : ℕ) → bool_xor (is_in a c) (is_in b c) ≡ true → ⊥
      differ c e =
          let s = sum_list a b in
          let one : words s = sum_in a b ra.one rb.one c e in
          let late : IsLate words (last_of s) = (s, one, refl) in
          let odd : bool_xor (is_in a (last_of s)) (is_in b (last_of s)) ≡ true = sym
          (sum_at a b ra.one rb.one (last_of s)) ∙ last_in s (linear.nonempty s one) in
          ⊎_elim
          (λ f. true≢false (sym (last_in b (linear.nonempty b rb.one))
          ∙ ap (is_in b) (sym same ∙ sym (ra.only (last_of s) late f.0)) ∙ f.1))
          (λ f. true≢false (sym (last_in a (linear.nonempty a ra.one))
          ∙ ap (is_in a) (same ∙ sym (rb.only (last_of s) late f.1)) ∙ f.0))
          (xor_one _ _ odd)

  module _ (decided : (p : ℕ) → IsLate words p ⊎ (IsLate words p → ⊥)) where
    -- a word with no late position from b on but its last one gives one with none at all
    reduce_from : (b : ℕ) (word : List ℕ) → words word → b ≤ last_of word
        → ((q : ℕ) → b ≤ q → IsLate words q → is_in word q ≡ true → q ≡ last_of word)
        → (reduced : List ℕ) × IsReducedWord words reduced × (last_of reduced ≡ last_of word)
    reduce_from zero word one le clear =
        (word, record { one = one; only = λ q late e. clear q zero-le late e }, refl)
    reduce_from (suc b) word one le clear = ⊎_elim
        (λ e. ⊎_elim (added (λ s s_one s_le s_clear. reduce_from b s s_one s_le s_clear) e)
        (λ none. kept (λ s_clear. reduce_from b word one (omega arith) s_clear)
        (λ late e2. none late)) (decided b))
        (λ e. kept (λ s_clear. reduce_from b word one (omega arith) s_clear)
        (λ late e2. true≢false (sym e2 ∙ e)))
        (true_or_false (is_in word b))
      where
        kept : (((q : ℕ) → b ≤ q → IsLate words q → is_in word q ≡ true → q ≡ last_of word)
            → (reduced : List ℕ) × IsReducedWord words reduced × (last_of reduced ≡ last_of word))
            → (IsLate words b → is_in word b ≡ true → ⊥)
            → (reduced : List ℕ) × IsReducedWord words reduced ×
            (last_of reduced ≡ last_of word)
        kept again not_b = again (λ q le2 late e. ⊎_elim
            (λ lt. ⊎_elim
            (λ z. absurd
            (not_b (subst (IsLate words) z late) (subst (λ c. is_in word c ≡ true) z e)))
            (λ lt2. absurd (omega arith)) (last_or_before q b lt))
            (λ le3. clear q le3 late e) (cases_lt q (suc b)))

        added : ((s : List ℕ) → words s → b ≤ last_of s
            → ((q : ℕ) → b ≤ q → IsLate words q → is_in s q ≡ true → q ≡ last_of s)
            → (reduced : List ℕ) × IsReducedWord words reduced × (last_of reduced ≡ last_of s))
            → is_in word b ≡ true → IsLate words b
            → (reduced : List ℕ) × IsReducedWord words reduced ×
            (last_of reduced ≡ last_of word)
        added again e late_b = let r = again s s_one (omega (arith, s_last)) s_clear in
            (r.0, r.1, r.2 ∙ s_last)
          where
            v : List ℕ
            v = late_b.0

            s : List ℕ
            s = sum_list word v

            p : ℕ
            p = last_of word

            v_past : (c : ℕ) → b < c → is_in v c ≡ false
            v_past c lt = none_past v (linear.rising v late_b.1) c (rw late_b.2 lt)

            s_past : (c : ℕ) → b < c → is_in s c ≡ is_in word c
            s_past c lt = sum_at word v one late_b.1 c ∙ ap (bool_xor (is_in word c)) (v_past c lt)
                ∙ bit_laws.comm _ false ∙ bit_laws.left _

            at_p : is_in word p ≡ true
            at_p = last_in word (linear.nonempty word one)

            s_one : words s
            s_one = sum_in word v one late_b.1 p (sym (sum_at word v one late_b.1 p)
                ∙ s_past p (omega arith) ∙ at_p)

            s_last : last_of s ≡ last_of word
            s_last = let up : p ≤ last_of s = last_most s (linear.rising s s_one) p
                (s_past p (omega arith) ∙ at_p) in
                ⊎_elim (λ (lt : b < last_of s). le_antisymm
                (last_most word (linear.rising word one) (last_of s)
                (sym (s_past (last_of s) lt) ∙ last_in s (linear.nonempty s s_one))) up)
                (λ le2. absurd (omega arith)) (cases_lt b (last_of s))

            s_at_b : is_in s b ≡ false
            s_at_b = sum_at word v one late_b.1 b
                ∙ ap₂ bool_xor e
                (subst (λ c. is_in v c ≡ true) late_b.2 (last_in v (linear.nonempty v late_b.1)))
                ∙ bit_laws.self true

            s_clear : (q : ℕ) → b ≤ q → IsLate words q → is_in s q ≡ true → q ≡ last_of s
            s_clear q le2 late f = ⊎_elim
                (λ lt. clear q (omega arith) late (sym (s_past q lt) ∙ f) ∙ sym s_last)
                (λ le3. let z : q ≡ b = le_antisymm le3 le2 in
                absurd (true≢false (sym f ∙ subst (λ c. is_in s c ≡ false) (sym z) s_at_b)))
                (cases_lt b q)

    -- each late position has a reduced word
    pub reduced_of : (p : ℕ) → IsLate words p → (word : List ℕ) × IsReducedWord words word ×
        (last_of word ≡ p)
    reduced_of p late =
        let r = reduce_from (last_of late.0) late.0 late.1 (le_refl _)
        (λ q le l e. le_antisymm (last_most late.0 (linear.rising late.0 late.1) q e) le) in
        (r.0, r.1, r.2 ∙ late.2)

    -- a test that is odd of some word is odd of some reduced word
    module _ (odd : List ℕ → Bool) (odd_sum : (a b word : List ℕ) → words a → words b
        → IsSumOf a b word → odd word ≡ bool_xor (odd a) (odd b)) where
      some_below : (b : ℕ) (word : List ℕ) → words word → last_of word < b → odd word ≡ true
          → (reduced : List ℕ) × IsReducedWord words reduced × (odd reduced ≡ true)
      some_below zero word one lt e = absurd (omega arith)
      some_below (suc b) word one lt e = ⊎_elim (λ f. (r.0, r.1, f))
          (further (λ s s_one s_lt s_odd. some_below b s s_one s_lt s_odd))
          (true_or_false (odd r.0))
        where
          r : (reduced : List ℕ) × IsReducedWord words reduced × (last_of reduced ≡ last_of word)
          r = reduced_of (last_of word) (word, one, refl)

          further : ((s : List ℕ) → words s → last_of s < b → odd s ≡ true
              → (reduced : List ℕ) × IsReducedWord words reduced × (odd reduced ≡ true))
              → odd r.0 ≡ false → (reduced : List ℕ) × IsReducedWord words reduced ×
              (odd reduced ≡ true)
          further again f = again s s_one s_last s_odd
            where
              s : List ℕ
              s = sum_list word r.0

              is_sum : IsSumOf word r.0 s
              is_sum = sum_list_is word r.0 (linear.rising word one) (linear.rising r.0 r.1.one)

              s_one : words s
              s_one = linear.sums word r.0 s one r.1.one
                  (λ same. true≢false (sym e ∙ ap odd same ∙ f)) is_sum

              s_odd : odd s ≡ true
              s_odd = odd_sum word r.0 s one r.1.one is_sum ∙ ap₂ bool_xor e f
                  ∙ bit_laws.comm true false ∙ bit_laws.left true

              q : ℕ
              q = last_of s

              at_q : bool_xor (is_in word q) (is_in r.0 q) ≡ true
              at_q = sym (sum_either word r.0 s is_sum q) ∙ last_in s (linear.nonempty s s_one)

              s_last : last_of s < b
              s_last = ⊎_elim (λ lt2. omega arith) (λ le.
                  let up : q ≤ last_of word = ⊎_elim
                  (λ g. last_most word (linear.rising word one) q g.0)
                  (λ g. subst (λ n. q ≤ n) r.2
                  (last_most r.0 (linear.rising r.0 r.1.one) q g.1)) (xor_one _ _ at_q) in
                  let z : q ≡ last_of word = le_antisymm up le in
                  let w : is_in word q ≡ true = subst (λ c. is_in word c ≡ true) (sym z)
                  (last_in word (linear.nonempty word one)) in
                  let u : is_in r.0 q ≡ true = subst (λ c. is_in r.0 c ≡ true) (r.2 ∙ sym z)
                  (last_in r.0 (linear.nonempty r.0 r.1.one)) in
                  absurd (true≢false (sym at_q ∙ ap₂ bool_xor w u ∙ bit_laws.self true)))
                  (cases_lt (last_of s) (last_of word))

      pub some_reduced : (word : List ℕ) → words word → odd word ≡ true
          → (reduced : List ℕ) × IsReducedWord words reduced × (odd reduced ≡ true)
      some_reduced word one e = some_below (suc (last_of word)) word one (lt-suc_self _) e

    -- of the reduced words that pass a test one is the first
    pub first_of : (test : List ℕ → Bool) (word : List ℕ) → IsReducedWord words word
        → test word ≡ true
        → (first : List ℕ) × IsFirstReducedWord words (λ w. test w ≡ true) first
    first_of test word reduced e = ⊎_elim
        (λ r. (
          r.1.0,
          record {
            reduced = r.1.1;
            of_kind = r.1.3;
            least = λ other ro eo. rw r.1.2
                (r.2 (last_of other) (other, ro, refl, eo));
          },
        ))
        (λ none. absurd (none (last_of word) (lt-suc_self _) (word, reduced, refl, e)))
        (least_below (λ p. (w : List ℕ) × IsReducedWord words w × (last_of w ≡ p) × (test w ≡ true))
        choose (suc (last_of word)))
      where
        choose : (p : ℕ)
            → ((w : List ℕ) × IsReducedWord words w × (last_of w ≡ p) × (test w ≡ true)) ⊎
            (((w : List ℕ) × IsReducedWord words w × (last_of w ≡ p) × (test w ≡ true)) → ⊥)
        choose p = ⊎_elim
            (λ late. let r = reduced_of p late in ⊎_elim (λ f. inl (r.0, r.1, r.2, f))
            (λ f. inr
            (λ w. true≢false (sym w.3 ∙ ap test (reduced_is_one w.0 r.0 w.1 r.1 (w.2 ∙ sym r.2))
            ∙ f))) (true_or_false (test r.0)))
            (λ none. inr (λ w. none (w.0, w.1.one, w.2)))
            (decided p)

  -- the first reduced word of a kind is one
  pub first_reduced_is_one : (kind : List ℕ → Type 0) (a b : List ℕ)
      → IsFirstReducedWord words kind a → IsFirstReducedWord words kind b → a ≡ b
  first_reduced_is_one kind a b fa fb = reduced_is_one a b fa.reduced fb.reduced
      (le_antisymm (fa.least b fb.reduced fb.of_kind) (fb.least a fa.reduced fa.of_kind))

-- ---- whether a word ends at a position, where it can be told of each word below n whether it is
-- one

pub decide_late : (words : List ℕ → Type 0) → IsLinear words → (n : ℕ)
    → ((w : List ℕ) → words w → All (λ c. c < n) w)
    → ((v : Set) → words (members n v) ⊎ (words (members n v) → ⊥))
    → (p : ℕ) → IsLate words p ⊎ (IsLate words p → ⊥)
decide_late words linear n below choose p = ⊎_elim
    (λ r. inl (members n r.0, r.2.0, r.2.1))
    (λ none. inr
    (λ late. none (is_in late.0) (past late.0 late.1) (
      subst words (listed late.0 late.1) late.1,
      ap last_of (sym (listed late.0 late.1))
          ∙ late.2,
    )))
    (search_sets n (λ v. words (members n v) × (last_of (members n v) ≡ p)) (λ v. ⊎_elim
    (λ one. ⊎_elim (λ e. inl (one, eqb-true _ _ e))
    (λ e. inr (λ h. true≢false (sym (eq-eqb _ _ h.1) ∙ e)))
    (true_or_false (last_of (members n v) == p)))
    (λ none. inr (λ h. none h.0)) (choose v)))
  where
    past : (w : List ℕ) → words w → IsBelow n (is_in w)
    past w one c le = false_from_ne_true _
        (λ e. let lt : c < n = in_all (λ d. d < n) w (below w one) c e in omega arith)

    listed : (w : List ℕ) → words w → w ≡ members n (is_in w)
    listed w one = rising_same w (members n (is_in w)) (linear.rising w one)
        (members_rise n (is_in w)) (λ c. ⊎_elim
        (λ lt. sym (members_same n (is_in w) c lt))
        (λ le. past w one c le
        ∙ sym (false_from_ne_true _
        (λ e. let lt : c < n = in_all (λ d. d < n) (members n (is_in w))
        (members_below n (is_in w)) c e in omega arith)))
        (cases_lt c n))
