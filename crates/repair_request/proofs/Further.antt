-- Null words and one further position.
use Rattle.std.proofs.Common.{⊎_elim, ◌≡◌, ℕ, zero, suc, ◌<◌, ◌≤◌, true, false, ◌==◌, List, refl, sym}
use Rattle.std.proofs.Common.{ap, ap₂, ◌∙◌, subst, arith, eqb-true, eq-eqb, true≢false, le_antisymm}
use Rattle.std.proofs.Math.Bool.{xor as bool_xor}
use Rattle.std.proofs.lemmas.Bool.{cases_lt, false_from_ne_true}
use Rattle.sparse_rows.specs.Matrix.{Matrix, is_in}
use Rattle.sparse_rows.specs.Closure.{Set, adding}
use Rattle.sparse_rows.specs.NullWord.{IsNullWord, last_of}
use Rattle.sparse_rows.proofs.Null.{all_from_in, in_all, null_outside}
use Rattle.sparse_rows.proofs.Parity.{bit_laws}
use Rattle.sparse_rows.proofs.Sets.{or_cases, or_first, or_second, true_or_false}
use Rattle.null_witness.specs.ReducedWords.{IsLate}
use Rattle.null_witness.proofs.First.{xor_one}
use Rattle.null_witness.proofs.Increasing.{last_in, last_most}
use Rattle.null_witness.proofs.NullWords.{null_linear}
use Rattle.null_witness.proofs.ReducedWords.{none_past, sum_either, sum_list, sum_list_is}
use Rattle.null_witness.proofs.Subsets.{null_subset}
use Rattle.repair_request.specs.Settling.{IsInnovative, together}

module _ (m : Matrix) (s : Set) where
  -- a null word without the positions of a list is one of the set together with them
  pub null_together : (request word : List ℕ) → IsNullWord m s word
      → ((c : ℕ) → is_in request c ≡ true → is_in word c ≡ false)
      → IsNullWord m (together s request) word
  null_together request word null lacks = record {
    rising = null.rising;
    below = null.below;
    nonempty = null.nonempty;
    even = null.even;
    outside = all_from_in (λ d. together s request d ≡ false) word (λ d f. false_from_ne_true _
        (λ g. ⊎_elim
        (λ h. true≢false (sym h ∙ in_all (λ c. s c ≡ false) word null.outside d f))
        (λ h. true≢false (sym f ∙ lacks d h)) (or_cases (s d) (is_in request d) g)));
  }

  -- and the other way round
  pub together_null : (request word : List ℕ) → IsNullWord m (together s request) word
      → IsNullWord m s word
  together_null request word null = null_subset m s (together s request) word
      (λ c h. or_first (s c) (is_in request c) h) null

  pub together_lacks : (request word : List ℕ) → IsNullWord m (together s request) word → (c : ℕ)
      → is_in request c ≡ true → is_in word c ≡ false
  together_lacks request word null c e = null_outside m (together s request) word null c
      (or_second (s c) _ e)

  module _ (e : ℕ) where
    -- a null word without a position is one of the set with it
    pub adding_null : (word : List ℕ) → IsNullWord m s word → is_in word e ≡ false
        → IsNullWord m (adding e s) word
    adding_null word null lacks = record {
      rising = null.rising;
      below = null.below;
      nonempty = null.nonempty;
      even = null.even;
      outside = all_from_in (λ d. adding e s d ≡ false) word (λ d f. false_from_ne_true _ (λ g.
          ⊎_elim (λ h. true≢false (sym h ∙ in_all (λ c. s c ≡ false) word null.outside d f))
          (λ h. true≢false (sym f ∙ subst (λ c. is_in word c ≡ false) (eqb-true e d h) lacks))
          (or_cases (s d) (e == d) g)));
    }

    null_adding : (word : List ℕ) → IsNullWord m (adding e s) word → IsNullWord m s word
    null_adding word null =
        null_subset m s (adding e s) word (λ c h. or_first (s c) (e == c) h) null

    adding_lacks : (word : List ℕ) → IsNullWord m (adding e s) word → is_in word e ≡ false
    adding_lacks word null =
        null_outside m (adding e s) word null e (or_second (s e) _ (eq-eqb e e refl))

    -- the sum of two null words, where they differ at some column
    sum_null : (a b : List ℕ) → IsNullWord m s a → IsNullWord m s b → (c : ℕ)
        → bool_xor (is_in a c) (is_in b c) ≡ true → IsNullWord m s (sum_list a b)
    sum_null a b ha hb c odd = (null_linear m s).sums a b (sum_list a b) ha hb
        (λ same. true≢false (sym odd ∙ ap (λ w. bool_xor (is_in w c) (is_in b c)) same
        ∙ bit_laws.self (is_in b c))) (sum_list_is a b ha.rising hb.rising)

    sum_at : (a b : List ℕ) → IsNullWord m s a → IsNullWord m s b → (c : ℕ)
        → is_in (sum_list a b) c ≡ bool_xor (is_in a c) (is_in b c)
    sum_at a b ha hb c = sum_either a b (sum_list a b) (sum_list_is a b ha.rising hb.rising) c

    -- ---- where null words end

    -- a position that is late with a further position was late before
    pub late_before : (p : ℕ) → IsLate (IsNullWord m (adding e s)) p → IsLate (IsNullWord m s) p
    late_before p late = (late.0, null_adding late.0 late.1, late.2)

    -- where no null word holds the position, nothing changes
    pub late_after : (¬ IsInnovative m s e) → (p : ℕ) → IsLate (IsNullWord m s) p
        → IsLate (IsNullWord m (adding e s)) p
    late_after none p late = (
      late.0,
      adding_null late.0 late.1 (false_from_ne_true _ (λ holds. none (late.0, late.1, holds))),
      late.2,
    )

    -- a null word that ends where none ends with the further position holds it
    pub holds_it : (p : ℕ) (late : IsLate (IsNullWord m s) p)
        → (¬ IsLate (IsNullWord m (adding e s)) p) → is_in late.0 e ≡ true
    holds_it p late gone = ⊎_elim (λ f. f)
        (λ f. absurd (gone (late.0, adding_null late.0 late.1 f, late.2)))
        (true_or_false (is_in late.0 e))

    -- of two null words that hold it, the sum ends where the one of them ends that ends last
    upper_stays : (p q : ℕ) → IsLate (IsNullWord m s) p → (¬ IsLate (IsNullWord m (adding e s)) p)
        → IsLate (IsNullWord m s) q → (¬ IsLate (IsNullWord m (adding e s)) q) → p < q → ⊥
    upper_stays p q hp gone_p hq gone_q lt = gone_q (
      sum,
      adding_null sum null (sum_at a b hp.1 hq.1 e
          ∙ ap₂ bool_xor (holds_it p hp gone_p) (holds_it q hq gone_q)
          ∙ bit_laws.self true),
      le_antisymm most (last_most sum null.rising q (sum_at a b hp.1 hq.1 q ∙ at_q)),
    )
      where
        a : List ℕ
        a = hp.0

        b : List ℕ
        b = hq.0

        sum : List ℕ
        sum = sum_list a b

        at_q : bool_xor (is_in a q) (is_in b q) ≡ true
        at_q = ap₂ bool_xor (none_past a hp.1.rising q (rw hp.2 lt))
            (subst (λ c. is_in b c ≡ true) hq.2 (last_in b hq.1.nonempty)) ∙ bit_laws.left true

        null : IsNullWord m s sum
        null = sum_null a b hp.1 hq.1 q at_q

        most : last_of sum ≤ q
        most = ⊎_elim
            (λ f. let le = last_most a hp.1.rising (last_of sum) f.0 in omega (arith, le, lt, hp.2))
            (λ f. let le = last_most b hq.1.rising (last_of sum) f.1 in omega (arith, le, hq.2))
            (xor_one _ _ (sym (sum_at a b hp.1 hq.1 (last_of sum)) ∙ last_in sum null.nonempty))

    -- at most one position stops being late
    pub one_gone : (p q : ℕ) → IsLate (IsNullWord m s) p
        → (¬ IsLate (IsNullWord m (adding e s)) p) → IsLate (IsNullWord m s) q
        → (¬ IsLate (IsNullWord m (adding e s)) q) → p ≡ q
    one_gone p q hp gone_p hq gone_q = ⊎_elim
        (λ (lt : p < q). absurd (upper_stays p q hp gone_p hq gone_q lt))
        (λ (le : q ≤ p). ⊎_elim
        (λ (lt : q < p). absurd (upper_stays q p hq gone_q hp gone_p lt))
        (λ (le2 : p ≤ q). le_antisymm le2 le) (cases_lt q p))
        (cases_lt p q)

    -- and some does where a null word holds the further one: else each such word would have one
    -- that ends before it
    never_gone : (b : ℕ) (word : List ℕ) → ((p : ℕ) → IsLate (IsNullWord m s) p
        → IsLate (IsNullWord m (adding e s)) p) → IsNullWord m s word → is_in word e ≡ true
        → last_of word < b → ⊥
    never_gone zero word stay null holds lt = absurd (omega arith)
    never_gone (suc b) word stay null holds lt =
        never_gone b sum stay sum_is (sum_at word a null ha e ∙ at_e) (omega (arith, lower, lt))
      where
        late : IsLate (IsNullWord m (adding e s)) (last_of word)
        late = stay (last_of word) (word, null, refl)

        a : List ℕ
        a = late.0

        ha : IsNullWord m s a
        ha = null_adding a late.1

        sum : List ℕ
        sum = sum_list word a

        at_e : bool_xor (is_in word e) (is_in a e) ≡ true
        at_e = ap₂ bool_xor holds (adding_lacks a late.1) ∙ bit_laws.comm true false
            ∙ bit_laws.left true

        sum_is : IsNullWord m s sum
        sum_is = sum_null word a null ha e at_e

        q : ℕ
        q = last_of sum

        at_q : bool_xor (is_in word q) (is_in a q) ≡ true
        at_q = sym (sum_at word a null ha q) ∙ last_in sum sum_is.nonempty

        upper : q ≤ last_of word
        upper = ⊎_elim (λ f. last_most word null.rising q f.0)
            (λ f. let le = last_most a ha.rising q f.1 in omega (arith, le, late.2))
            (xor_one _ _ at_q)

        lower : q < last_of word
        lower = ⊎_elim (λ (less : q < last_of word). less)
            (λ (le : last_of word ≤ q).
            let z : q ≡ last_of word = le_antisymm upper le in
            let w : is_in word q ≡ true = subst (λ c. is_in word c ≡ true) (sym z)
            (last_in word null.nonempty) in
            let u : is_in a q ≡ true = subst (λ c. is_in a c ≡ true) (late.2 ∙ sym z)
            (last_in a ha.nonempty) in
            absurd (true≢false (sym at_q ∙ ap₂ bool_xor w u ∙ bit_laws.self true)))
            (cases_lt q (last_of word))

    pub some_gone : IsInnovative m s e → ((p : ℕ) → IsLate (IsNullWord m s) p
        → IsLate (IsNullWord m (adding e s)) p) → ⊥
    some_gone some stay = never_gone (suc (last_of some.0)) some.0 stay some.1 some.2 (omega arith)
