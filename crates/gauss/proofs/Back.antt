-- Back substitution: what the pivot rows give to their unknowns, from the last one down.
use Rattle.std.proofs.Common.{◌≡◌, ℕ, zero, suc, ◌<◌, ◌≤◌, ⊎_elim, Bool, true, false, cond, ◌&&◌}
use Rattle.std.proofs.Common.{◌==◌, refl, sym, ap, ◌∙◌, subst, arith, true≢false, ltb, lt-suc_self}
use Rattle.std.proofs.Common.{le_refl, eq-eqb, eqb-true}
use Rattle.std.proofs.Math.Bool.{xor as bool_xor}
use Rattle.std.proofs.lemmas.Bool.{lt-ltb, le-ltb, ltb-true, cases_lt, ne_eqb}
use Rattle.sparse_rows.specs.Closure.{Set}
use Rattle.sparse_rows.proofs.Algebra.{XorLaws, right}
use Rattle.sparse_rows.proofs.Parity.{bit_laws}
use Rattle.sparse_rows.proofs.Shape.{last_or_before}
use Rattle.gauss.specs.Elimination.{product, Solves, mask_in, IsStage, behind}
use Rattle.gauss.proofs.Products.{product_xor, product_none, product_same}
use Rattle.gauss.proofs.Clearing.{product_on, product_one, which}

-- what the pivot row of p gives to p, where x gives the unknowns behind it
abbrev pub value : {G : Type 0} → G → (G → G → G) → ℕ → (ℕ → Set) → (ℕ → ℕ) → (ℕ → G) → ℕ → (ℕ → G)
    → G
value o add u bits pivot_row sum p x = add (sum (pivot_row p))
    (product o add u (behind bits pivot_row p) x)

-- the unknowns below n by their pivot rows, and what y gives where one is free, and from n on
abbrev pub below : {G : Type 0} → G → (G → G → G) → ℕ → ℕ → (ℕ → Set) → (ℕ → ℕ) → (ℕ → G) → ℕ
    → (ℕ → G) → ℕ → G
below o add u r bits pivot_row sum zero y = y
below o add u r bits pivot_row sum (suc n) y = below o add u r bits pivot_row sum n
    (λ c. cond (c == n) (cond (ltb (pivot_row n) r) (value o add u bits pivot_row sum n y) (y n)) (y c))

is_behind : (p c : ℕ) (b : Bool) → (ltb p c && b) ≡ true → p < c
is_behind p c b e = ⊎_elim (λ lt. lt) (λ le. absurd (true≢false (sym e ∙ rw (le-ltb p c le) refl)))
    (cases_lt p c)

module _ {G : Type 0} (o : G) (add : G → G → G) (laws : XorLaws G o add) (u : ℕ) (bits : ℕ
    → Set) (pivot_row : ℕ → ℕ) (sum : ℕ → G) where
  -- it depends on the unknowns behind p alone
  pub value_same : (p : ℕ) (x y : ℕ → G) → ((c : ℕ) → p < c → c < u → x c ≡ y c)
      → value o add u bits pivot_row sum p x ≡ value o add u bits pivot_row sum p y
  value_same p x y h = ap (add (sum (pivot_row p)))
      (product_on o add laws u (behind bits pivot_row p) (behind bits pivot_row p) x y (λ c. refl)
      (λ c lt e. h c (is_behind p c (bits (pivot_row p) c) e) lt))

  -- two that agree from f on, and whose unknowns below f come from the pivot rows, agree
  pub values_agree : (f : ℕ) (x y : ℕ → G)
      → ((p : ℕ) → p < f → x p ≡ value o add u bits pivot_row sum p x)
      → ((p : ℕ) → p < f → y p ≡ value o add u bits pivot_row sum p y)
      → ((c : ℕ) → f ≤ c → c < u → x c ≡ y c) → (c : ℕ) → c < u → x c ≡ y c
  values_agree zero x y hx hy agree c lt = agree c (omega arith) lt
  values_agree (suc f) x y hx hy agree c lt = values_agree f x y (λ p lt2. hx p (omega arith))
      (λ p lt2. hy p (omega arith)) (λ d le lt2. ⊎_elim
      (λ gt. agree d (omega arith) lt2)
      (λ le2. let e : d ≡ f = omega arith in
      rw e (hx f (lt-suc_self f) ∙ value_same f x y (λ b gt lt3. agree b (omega arith) lt3)
      ∙ sym (hy f (lt-suc_self f))))
      (cases_lt f d)) c lt

  module _ (r : ℕ) where
    pub below_kept : (n : ℕ) (y : ℕ → G) (c : ℕ) → n ≤ c → below o add u r bits pivot_row sum n y c
        ≡ y c
    below_kept zero y c le = refl
    below_kept (suc n) y c le = below_kept n _ c (omega arith)
        ∙ rw (ne_eqb c n (λ e. omega (arith, e))) refl

    -- a free unknown has what y gives
    pub below_free : (n : ℕ) (y : ℕ → G) (p : ℕ) → r ≤ pivot_row p
        → below o add u r bits pivot_row sum n y p ≡ y p
    below_free zero y p free = refl
    below_free (suc n) y p free = below_free n _ p free ∙ by_case (p == n) refl
      where
        by_case : (b : Bool) → (p == n) ≡ b
            → cond b (cond (ltb (pivot_row n) r) (value o add u bits pivot_row sum n y) (y n)) (y p)
            ≡ y p
        by_case true e = subst
            (λ q. cond (ltb (pivot_row q) r) (value o add u bits pivot_row sum n y) (y n) ≡ y p)
            (eqb-true p n e)
            (rw (le-ltb (pivot_row p) r free) (ap y (sym (eqb-true p n e))))
        by_case false e = refl

    -- each unknown below n with a pivot row comes from it
    pub below_valued : (n : ℕ) (y : ℕ → G) (p : ℕ) → p < n → pivot_row p < r
        → below o add u r bits pivot_row sum n y p ≡ value o add u bits pivot_row sum p
        (below o add u r bits pivot_row sum n y)
    below_valued zero y p lt pivot = absurd (omega arith)
    below_valued (suc n) y p lt pivot =
        ⊎_elim (λ e. subst (λ q. pivot_row q < r → below o add u r bits pivot_row sum (suc n) y q
        ≡ value o add u bits pivot_row sum q (below o add u r bits pivot_row sum (suc n) y)) (sym e)
        last pivot)
        (λ lt2. below_valued n _ p lt2 pivot) (last_or_before p n lt)
      where
        now : ℕ → G
        now c = cond (c == n) (cond (ltb (pivot_row n) r) (value o add u bits pivot_row sum n y)
            (y n)) (y c)

        last : pivot_row n < r → below o add u r bits pivot_row sum (suc n) y n ≡ value o add u bits
            pivot_row sum n (below o add u r bits pivot_row sum (suc n) y)
        last pivot2 = below_kept n now n (le_refl n)
            ∙ rw (eq-eqb n n refl, lt-ltb (pivot_row n) r pivot2) refl
            ∙ value_same n y (below o add u r bits pivot_row sum (suc n) y)
            (λ c gt lt3. sym (below_kept n now c (omega arith)
            ∙ rw (ne_eqb c n (λ e. omega (arith, e))) refl))

  -- ---- the last stage

  module _ (r : ℕ) (first : ℕ → Set) (lead : ℕ → ℕ) (st : IsStage u r u first bits pivot_row lead)
    where
      pub value_at_pivot : (p : ℕ) → p < u → pivot_row p < r → (x : ℕ → G)
          → product o add u (mask_in u u bits lead (pivot_row p)) x ≡ add (x p)
          (product o add u (behind bits pivot_row p) x)
      unfolding bool_xor
      value_at_pivot p lt pivot x = product_same o add laws u (mask_in u u bits lead (pivot_row p))
          (λ c. bool_xor (c == p) (behind bits pivot_row p c)) x (λ c lt2. apart c)
          ∙ product_xor o add laws u (λ c. c == p) (behind bits pivot_row p) x
          ∙ ap (λ v. add v (product o add u (behind bits pivot_row p) x))
          (product_one o add laws u p x lt)
        where
          apart : (c : ℕ) → mask_in u u bits lead (pivot_row p) c ≡ bool_xor (c == p)
              (behind bits pivot_row p c)
          apart c = rw (st.own p lt pivot, lt-ltb p u lt) (⊎_elim
              (λ lt2. rw (ne_eqb c p (λ e. omega (arith, e)), le-ltb p c (omega arith)) refl)
              (⊎_elim (λ e. rw e (rw (eq-eqb p p refl, le-ltb p p (omega arith)) refl))
              (λ gt. rw (ne_eqb c p (λ e. omega (arith, e))) (sym (bit_laws.left _))))
              (which c p))

      pub rest_row : (j : ℕ) → ltb (lead j) u ≡ false → (x : ℕ → G)
          → product o add u (mask_in u u bits lead j) x ≡ o
      rest_row j e x = product_none o add laws u (mask_in u u bits lead j) x
          (λ c lt. rw (e, lt-ltb c u lt) refl)

      add_back : (a b : G) → add (add a b) b ≡ a
      add_back a b = laws.assoc a b b ∙ ap (add a) (laws.self b) ∙ right o add laws a

      -- what comes from the pivot rows solves the rows, where those that lead nothing sum to zero
      pub values_solve : (x : ℕ → G) → ((j : ℕ) → j < r → ltb (lead j) u ≡ false → sum j ≡ o)
          → ((p : ℕ) → p < u → pivot_row p < r → x p ≡ value o add u bits pivot_row sum p x)
          → Solves o add u r (mask_in u u bits lead) sum x
      values_solve x rest h j lt = by_case (ltb (lead j) u) refl
        where
          by_case : (b : Bool) → ltb (lead j) u ≡ b → product o add u (mask_in u u bits lead j) x
              ≡ sum j
          by_case true e = let low : lead j < u = ltb-true (lead j) u e in let w = st.led j low in
              let pivot : pivot_row (lead j) < r = rw w.1 lt in
              subst (λ k. product o add u (mask_in u u bits lead k) x ≡ sum k) w.1
              (value_at_pivot (lead j) low pivot x
              ∙ ap (λ v. add v (product o add u (behind bits pivot_row (lead j)) x))
              (h (lead j) low pivot) ∙ add_back (sum (pivot_row (lead j))) _)
          by_case false e = rest_row j e x ∙ sym (rest j lt e)

      -- and what solves the rows comes from them
      pub solution_values : (x : ℕ → G) → Solves o add u r (mask_in u u bits lead) sum x → (p : ℕ)
          → p < u → pivot_row p < r → x p ≡ value o add u bits pivot_row sum p x
      solution_values x h p lt pivot =
          sym (add_back (x p) (product o add u (behind bits pivot_row p) x))
          ∙ ap (λ v. add v (product o add u (behind bits pivot_row p) x))
          (sym (value_at_pivot p lt pivot x) ∙ h (pivot_row p) pivot)
