-- The stages of an elimination, by functions of a row's number.
use Rattle.std.proofs.Common.{◌≡◌, ◌≢◌, ℕ, suc, ◌+◌, ◌<◌, ◌≤◌, ⊎_elim, Bool, true, false, cond}
use Rattle.std.proofs.Common.{◌&&◌, refl, sym, ap, ap₂, ◌∙◌, subst, subst₂, arith, replicate}
use Rattle.std.proofs.Common.{true≢false, eq-eqb, inl, inr, add-one, List, length, get_or, set}
use Rattle.std.proofs.Common.{length-set, get_or-set_same, get_or-set_other, ltb, lt-suc_self}
use Rattle.std.proofs.Common.{bit_xor}
use Rattle.std.proofs.Math.Bool.{xor as bool_xor}
use Rattle.std.specs.List.{range_with_len}
use Rattle.std.proofs.lemmas.Bool.{lt-ltb, le-ltb, ltb-true, cases_lt, cases_eq}
use Rattle.std.proofs.lemmas.List.{get_or_past, length-replicate, get_or-replicate}
use Rattle.sparse_rows.specs.Closure.{Set}
use Rattle.sparse_rows.proofs.Algebra.{XorLaws, right, total_zero}
use Rattle.sparse_rows.proofs.Parity.{bit_laws}
use Rattle.sparse_rows.proofs.Planes.{byte_laws}
use Rattle.sparse_rows.proofs.Shape.{last_or_before}
use mathlib.Core.Path.{fun_ext}
use Rattle.gauss.specs.Elimination.{Solves, mask_in, taken_in, sum_in, hit_by, IsCleared, IsStage}
use Rattle.gauss.specs.Elimination.{IsStageIn, IsStep, IsTaken, IsLeft, pivot_row, lead_of}
use Rattle.gauss.proofs.Products.{mask_after, sum_after, product_same, op_keeps, op_undoes}
use Rattle.gauss.proofs.Clearing.{masks_after, sums_after, hit_not, product_on, which}

module _ {G : Type 0} (o : G) (add : G → G → G) (laws : XorLaws G o add) where
  -- masks and sums that agree have the same solutions
  pub solves_same : (u r : ℕ) (a b : ℕ → Set) (sum other x : ℕ → G)
      → ((j c : ℕ) → j < r → c < u → a j c ≡ b j c) → ((j : ℕ) → j < r → sum j ≡ other j)
      → Solves o add u r a sum x → Solves o add u r b other x
  solves_same u r a b sum other x masks sums h j lt =
      sym (product_same o add laws u (a j) (b j) x (λ c lt2. masks j c lt lt2)) ∙ h j lt ∙ sums j lt

module _ (u r : ℕ) (first : ℕ → Set) where
  -- before the first unknown
  pub stage_none : (pivot_row lead : ℕ → ℕ) → ((j : ℕ) → u ≤ lead j)
      → IsStage u r 0 first first pivot_row lead
  stage_none pivot_row lead none = record {
    own = λ p lt. absurd (omega arith);
    gone = λ p lt. absurd (omega arith);
    led = λ j lt. let le = none j in absurd (omega arith);
    nulls = λ w. (
      solves_same false bool_xor bit_laws u r _ _ _ _ w (λ j c lt lt2. sym (masks j c))
          (λ j lt. refl),
      solves_same false bool_xor bit_laws u r _ _ _ _ w (λ j c lt lt2. masks j c)
          (λ j lt. refl),
    );
    planes = λ s x. (
      solves_same 0 bit_xor byte_laws u r _ _ _ _ x (λ j c lt lt2. sym (masks j c))
          (λ j lt. sym (sums s j)),
      solves_same 0 bit_xor byte_laws u r _ _ _ _ x
          (λ j c lt lt2. masks j c) (λ j lt. sums s j),
    );
  }
    where
      masks : (j c : ℕ) → mask_in u 0 first lead j c ≡ first j c
      masks j c = rw (le-ltb (lead j) u (none j), le-ltb c 0 (omega arith)) refl

      sums : (s : ℕ → ℕ) (j : ℕ) → sum_in 0 bit_xor u 0 first lead pivot_row s j ≡ s j
      sums s j = ap (bit_xor (s j)) (product_on 0 bit_xor byte_laws u (taken_in u 0 first lead j)
          (λ p. false) (λ p. s (pivot_row p)) (λ p. 0)
          (λ p. rw (le-ltb (lead j) u (none j), le-ltb p 0 (omega arith)) refl)
          (λ p lt e. absurd (true≢false (sym e
          ∙ rw (le-ltb (lead j) u (none j), le-ltb p 0 (omega arith)) refl)))
          ∙ total_zero 0 bit_xor byte_laws (range_with_len 0 u)) ∙ right 0 bit_xor byte_laws (s j)

  -- a row that leads nothing and has i becomes its pivot row
  module _ (i t : ℕ) (bits now : ℕ → Set) (pivot_row more lead next : ℕ
      → ℕ) (st : IsStage u r i first bits pivot_row lead) (below : i < u) (inside : t < r)
      (unled : u ≤ lead t) (holds : bits t i ≡ true)
      (leads : next t ≡ i) (others : (j : ℕ) → j ≢ t → next j ≡ lead j) (same : (p : ℕ) → p < i
      → more p ≡ pivot_row p) (joins : more i ≡ t) (cleared : IsCleared u t i lead bits now)
    where
      not_led : ltb (lead t) u ≡ false
      not_led = le-ltb (lead t) u unled

      early : (j : ℕ) → ltb (lead j) u ≡ true → lead j < i
      early j e = (st.led j (ltb-true (lead j) u e)).0

      masks : (j c : ℕ) → mask_in u (suc i) now next j c ≡ mask_after (hit_by u t i bits lead) t
          (mask_in u i bits lead) j c
      masks = masks_after u t i lead next bits now cleared below not_led holds leads others

      sums : {G : Type 0} (o : G) (add : G → G → G) (laws : XorLaws G o add) (s : ℕ → G) (j : ℕ)
          → sum_in o add u (suc i) now next more s j ≡ sum_after add (hit_by u t i bits lead) t
          (sum_in o add u i bits lead pivot_row s) j
      sums o add laws s = sums_after o add laws u t i lead next bits now cleared below not_led holds
          leads others early pivot_row more same joins s

      no_sums : (j : ℕ) → sum_after bool_xor (hit_by u t i bits lead) t (λ k. false) j ≡ false
      no_sums j = by_case (hit_by u t i bits lead j)
        where
          by_case : (b : Bool) → cond b (bool_xor false false) false ≡ false
          by_case true = bit_laws.self false
          by_case false = refl

      not_hit : hit_by u t i bits lead t ≡ false
      not_hit = hit_not u t i lead next bits now cleared below not_led holds leads others

      pub stage_pivot : IsStage u r (suc i) first now more next
      stage_pivot = record {
        own = λ p lt pivot. ⊎_elim (λ e. subst (λ q. next (more q) ≡ q) (sym e) (ap next joins
            ∙ leads))
            (λ lt2. let at : lead (pivot_row p) ≡ p = st.own p lt2 (rw (same p lt2) at pivot) in
            ap next (same p lt2) ∙ others (pivot_row p) (λ e. let z = ap lead e in
            absurd (omega (arith, z, at, unled))) ∙ at) (last_or_before p i lt);
        gone = λ p lt pivot. ⊎_elim (λ e. subst (λ q. now (more q) q ≡ false) (sym e)
            (ap (λ j. now j i) joins ∙ cleared.pivot i ∙ ap₂ bool_xor holds (eq-eqb i i refl)
            ∙ bit_laws.self true))
            (λ lt2. let pivot2 : pivot_row p < r = rw (same p lt2) at pivot in
            let at : lead (pivot_row p) ≡ p = st.own p lt2 pivot2 in
            ap (λ j. now j p) (same p lt2) ∙ cleared.other (pivot_row p) p
            (λ e. let z = ap lead e in
            absurd (omega (arith, z, at, unled))) (rw (at, lt-ltb p u (omega (arith, below)))
            refl) ∙ st.gone p lt2 pivot2) (last_or_before p i lt);
        led = λ j lt. ⊎_elim (λ e. subst (λ k. (next k < suc i) × (more (next k) ≡ k)) (sym e)
            (rw leads (lt-suc_self i, joins))) (λ ne. let w = st.led j (rw (others j ne) at lt) in
            rw (others j ne) (omega (arith, w.0), same (lead j) w.0 ∙ w.1)) (cases_eq j t);
        nulls = λ w. (
          λ h. solves_same false bool_xor bit_laws u r _ _ _ _ w (λ j c lt lt2. sym (masks j c))
              (λ j lt. no_sums j) (op_keeps false bool_xor bit_laws u r (hit_by u t i bits lead) t
              (mask_in u i bits lead) (λ j. false) w inside ((st.nulls w).0 h)),
          λ h. (st.nulls w).1 (op_undoes false bool_xor bit_laws u r (hit_by u t i bits lead) t
              (mask_in u i bits lead) (λ j. false) w inside not_hit
              (solves_same false bool_xor bit_laws u r _ _ _ _ w (λ j c lt lt2. masks j c)
              (λ j lt. sym (no_sums j)) h)),
        );
        planes = λ s x. (
          λ h. solves_same 0 bit_xor byte_laws u r _ _ _ _ x (λ j c lt lt2. sym (masks j c))
              (λ j lt. sym (sums 0 bit_xor byte_laws s j))
              (op_keeps 0 bit_xor byte_laws u r (hit_by u t i bits lead) t (mask_in u i bits lead)
              (sum_in 0 bit_xor u i bits lead pivot_row s) x inside ((st.planes s x).0 h)),
          λ h. (st.planes s x).1 (op_undoes 0 bit_xor byte_laws u r (hit_by u t i bits lead) t
              (mask_in u i bits lead) (sum_in 0 bit_xor u i bits lead pivot_row s) x inside not_hit
              (solves_same 0 bit_xor byte_laws u r _ _ _ _ x (λ j c lt lt2. masks j c)
              (λ j lt. sums 0 bit_xor byte_laws s j) h)),
        );
      }

  -- no row that leads nothing has i: it is free
  module _ (i : ℕ) (bits : ℕ → Set) (pivot_row more lead : ℕ
      → ℕ) (st : IsStage u r i first bits pivot_row lead) (free : r ≤ more i) (none : (j : ℕ)
      → j < r → u ≤ lead j → bits j i ≡ false)
      (same : (p : ℕ) → p < i → more p ≡ pivot_row p) where
    free_masks : (j c : ℕ) → j < r → mask_in u (suc i) bits lead j c ≡ mask_in u i bits lead j c
    free_masks j c lt = by_case (ltb (lead j) u) refl
      where
        by_case : (b : Bool) → ltb (lead j) u ≡ b → mask_in u (suc i) bits lead j c ≡ mask_in u i
            bits lead j c
        by_case true e = rw e refl
        by_case false e = rw e (⊎_elim
            (λ lt2. rw (lt-ltb c i lt2, lt-ltb c (suc i) (omega arith)) refl)
            (⊎_elim (λ f. rw f (rw (
              lt-ltb i (suc i) (omega arith),
              le-ltb i i (omega arith),
              none j lt (⊎_elim (λ lt2. absurd (true≢false (sym (lt-ltb (lead j) u lt2) ∙ e)))
                  (λ le. le) (cases_lt (lead j) u)),
            ) refl))
            (λ gt. rw (le-ltb c (suc i) (omega arith), le-ltb c i (omega arith)) refl))
            (which c i))

    free_sums : (s : ℕ → ℕ) (j : ℕ) → j < r → sum_in 0 bit_xor u (suc i) bits lead more s j
        ≡ sum_in 0 bit_xor u i bits lead pivot_row s j
    free_sums s j lt = ap (bit_xor (s j))
        (product_on 0 bit_xor byte_laws u (taken_in u (suc i) bits lead j)
        (taken_in u i bits lead j) (λ p. s (more p)) (λ p. s (pivot_row p)) takes
        (λ p lt2 e. ap s (same p (early p (sym (takes p) ∙ e)))))
      where
        takes : (p : ℕ) → taken_in u (suc i) bits lead j p ≡ taken_in u i bits lead j p
        takes p = by_case (ltb (lead j) u) refl
          where
            by_case : (b : Bool) → ltb (lead j) u ≡ b → taken_in u (suc i) bits lead j p
                ≡ taken_in u i bits lead j p
            by_case true e = rw e refl
            by_case false e = rw e (⊎_elim
                (λ lt2. rw (lt-ltb p i lt2, lt-ltb p (suc i) (omega arith)) refl)
                (⊎_elim (λ f. rw f (rw (
                  lt-ltb i (suc i) (omega arith),
                  le-ltb i i (omega arith),
                  none j lt (⊎_elim (λ lt2. absurd (true≢false (sym (lt-ltb (lead j) u lt2) ∙ e)))
                      (λ le. le) (cases_lt (lead j) u)),
                ) refl))
                (λ gt. rw (le-ltb p (suc i) (omega arith), le-ltb p i (omega arith)) refl))
                (which p i))

        early : (p : ℕ) → taken_in u i bits lead j p ≡ true → p < i
        early p = by_case (ltb (lead j) u) refl
          where
            below : (n : ℕ) (b : Bool) → (ltb p n && b) ≡ true → p < n
            below n b e = ⊎_elim (λ lt2. lt2)
                (λ le. absurd (true≢false (sym e ∙ rw (le-ltb p n le) refl))) (cases_lt p n)

            by_case : (b : Bool) → ltb (lead j) u ≡ b → taken_in u i bits lead j p ≡ true → p < i
            by_case true e f = let lt2 : p < lead j = below (lead j) (bits j p) (sym (rw e refl)
                ∙ f) in let w = st.led j (ltb-true (lead j) u e) in omega (arith, w.0)
            by_case false e f = below i (bits j p) (sym (rw e refl) ∙ f)

    pub stage_free : IsStage u r (suc i) first bits more lead
    stage_free = record {
      own = λ p lt pivot. ⊎_elim (λ e. let z = ap more e in absurd (omega (arith, z, free)))
          (λ lt2. ap lead (same p lt2) ∙ st.own p lt2 (rw (same p lt2) at pivot))
          (last_or_before p i lt);
      gone = λ p lt pivot. ⊎_elim (λ e. let z = ap more e in absurd (omega (arith, z, free)))
          (λ lt2. ap (λ j. bits j p) (same p lt2) ∙ st.gone p lt2 (rw (same p lt2) at pivot))
          (last_or_before p i lt);
      led = λ j lt. let w = st.led j lt in (omega (arith, w.0), same (lead j) w.0 ∙ w.1);
      nulls = λ w. (
        λ h. solves_same false bool_xor bit_laws u r _ _ _ _ w
            (λ j c lt lt2. sym (free_masks j c lt)) (λ j lt. refl) ((st.nulls w).0 h),
        λ h. (st.nulls w).1 (solves_same false bool_xor bit_laws u r _ _ _ _ w
            (λ j c lt lt2. free_masks j c lt) (λ j lt. refl) h),
      );
      planes = λ s x. (
        λ h. solves_same 0 bit_xor byte_laws u r _ _ _ _ x (λ j c lt lt2. sym (free_masks j c lt))
            (λ j lt. sym (free_sums s j lt)) ((st.planes s x).0 h),
        λ h. (st.planes s x).1 (solves_same 0 bit_xor byte_laws u r _ _ _ _ x
            (λ j c lt lt2. free_masks j c lt) (λ j lt. free_sums s j lt) h),
      );
    }

-- ---- the next stage, by lists

module _ (u r i : ℕ) (first bits bits_now : ℕ → Set) (pivots leads pivots_now leads_now : List ℕ)
    (st : IsStageIn u r i first bits pivots leads) (below : i < u) where
  next_left : IsLeft u r i bits bits_now pivots leads pivots_now leads_now
      → IsStageIn u r (suc i) first bits_now pivots_now leads_now
  next_left left = rw (left.pivot, left.lead, fun_ext (λ j. fun_ext (λ c. left.same j c))) (record {
    pivot_count = st.pivot_count;
    lead_count = st.lead_count;
    later = λ p le lt. st.later p (omega arith) lt;
    stage = stage_free u r first i bits (pivot_row r pivots) (pivot_row r pivots) (lead_of u leads)
        st.stage (omega (arith, st.later i (omega arith) below)) left.none (λ p lt. refl);
  })

  next_taken : (t : ℕ) → IsTaken u r i t bits bits_now pivots leads pivots_now leads_now
      → IsStageIn u r (suc i) first bits_now pivots_now leads_now
  next_taken t taken = rw (taken.pivot, taken.lead) (record {
    pivot_count = length-set pivots i t ∙ st.pivot_count;
    lead_count = length-set leads t i ∙ st.lead_count;
    later = λ p le lt. get_or-set_other pivots i p t r (λ e. omega (arith, e))
        ∙ st.later p (omega arith) lt;
    stage = stage_pivot u r first i t bits bits_now (pivot_row r pivots)
        (pivot_row r (set pivots i t)) (lead_of u leads) (lead_of u (set leads t i)) st.stage below
        taken.inside taken.unled taken.holds
        (get_or-set_same leads t i u (omega (arith, taken.inside, st.lead_count)))
        (λ j ne. get_or-set_other leads t j i u ne)
        (λ p lt. get_or-set_other pivots i p t r (λ e. omega (arith, e)))
        (get_or-set_same pivots i t r (omega (arith, below, st.pivot_count))) taken.cleared;
  })

  pub next_stage : IsStep u r i bits bits_now pivots leads pivots_now leads_now
      → IsStageIn u r (i + 1) first bits_now pivots_now leads_now
  next_stage (inl left) = rw (add-one i) (next_left left)
  next_stage (inr taken) = rw (add-one i) (next_taken taken.0 taken.1)

-- ---- the steps as loops make them

-- the next stage, where the lists of the step are as long as the first ones
pub more_stage : (u r n m i : ℕ) (first bits bits_now : ℕ
    → Set) (pivots leads pivots_now leads_now : List ℕ) → n ≡ u → m ≡ r → i < u
    → IsStageIn u r i first bits pivots leads
    → IsStep n m i bits bits_now pivots leads pivots_now leads_now
    → IsStageIn u r (i + 1) first bits_now pivots_now leads_now
more_stage u r n m i first bits bits_now pivots leads pivots_now leads_now e f lt st step =
    next_stage u r i first bits bits_now pivots leads pivots_now leads_now st lt (rw (e, f) at step)

-- before the first unknown no unknown has a pivot row, and no row leads one
first_stage : (u r : ℕ) (first : ℕ → Set) → IsStageIn u r 0 first first (replicate u r)
    (replicate r u)
first_stage u r first = record {
  pivot_count = length-replicate u r;
  lead_count = length-replicate r u;
  later = λ p le lt. get_or-replicate u p r r lt;
  stage = stage_none u r first (pivot_row r (replicate u r)) (lead_of u (replicate r u))
      (λ j. ⊎_elim
      (λ lt. let e : get_or (replicate r u) j u ≡ u = get_or-replicate r j u u lt in
      omega (arith, e))
      (λ le. let e : get_or (replicate r u) j u ≡ u = get_or_past (replicate r u) j u
      (rw (length-replicate r u) le) in omega (arith, e)) (cases_lt j r));
}

-- all steps, from there
pub all_worked : (u r : ℕ) (first now : ℕ → Set) (pivots leads pivots_now leads_now : List ℕ)
    → pivots ≡ replicate u r → leads ≡ replicate r u
    → ((f : ℕ → Set) → IsStageIn (length pivots) (length leads) 0 f first pivots leads
    → IsStageIn (length pivots) (length leads) (length pivots) f now pivots_now leads_now)
    → IsStageIn u r u first now pivots_now leads_now
all_worked u r first now pivots leads pivots_now leads_now e f h =
    subst₂ (λ n m. IsStageIn n m n first now pivots_now leads_now) many few
    (h first (subst₂ (λ n m. IsStageIn n m 0 first first pivots leads) (sym many) (sym few)
    (subst₂ (λ ps ls. IsStageIn u r 0 first first ps ls) (sym e) (sym f)
    (first_stage u r first))))
  where
    many : length pivots ≡ u
    many = ap length e ∙ length-replicate u r

    few : length leads ≡ r
    few = ap length f ∙ length-replicate r u
