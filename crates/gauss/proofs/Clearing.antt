-- One pivot row: the masks and the sums after its step are those of a row operation.
use Rattle.std.proofs.Common.{◌≡◌, ◌≢◌, ℕ, suc, ◌<◌, ◌⊎◌, inl, inr, ⊎_elim, Bool, true, false, cond}
use Rattle.std.proofs.Common.{not, ◌&&◌, ◌||◌, ◌==◌, refl, sym, ap, ap₂, ◌∙◌, arith, true≢false}
use Rattle.std.proofs.Common.{eq-eqb, ltb, get_or}
use Rattle.std.proofs.Math.Bool.{xor as bool_xor}
use Rattle.std.specs.List.{range_with_len}
use Rattle.std.proofs.lemmas.Bool.{lt-ltb, le-ltb, cases_lt, cases_eq, ne_eqb}
use Rattle.sparse_rows.specs.Closure.{Set}
use Rattle.sparse_rows.proofs.Algebra.{XorLaws, total_same}
use Rattle.sparse_rows.proofs.Parity.{bit_laws}
use Rattle.sparse_rows.proofs.Null.{range_below}
use Rattle.gauss.specs.Elimination.{product, mask_in, taken_in, sum_in, hit_by, IsCleared}
use Rattle.gauss.proofs.Products.{mask_after, sum_after, product_xor, total_at}

-- before, at or behind
pub which : (c i : ℕ) → (c < i) ⊎ ((c ≡ i) ⊎ (i < c))
which c i = ⊎_elim inl (λ le. ⊎_elim (λ e. inr (inl e)) (λ ne. inr (inr (omega (arith, ne))))
    (cases_eq c i)) (cases_lt c i)

pub xor_none : (b : Bool) → bool_xor b false ≡ b
xor_none b = bit_laws.comm b false ∙ bit_laws.left b

pub and_no : (b : Bool) → (b && false) ≡ false
and_no true = refl
and_no false = refl

module _ (u t i : ℕ) (lead next : ℕ → ℕ) (bits now : ℕ
    → Set) (cleared : IsCleared u t i lead bits now) (below : i < u)
    (unled : ltb (lead t) u ≡ false) (holds : bits t i ≡ true) (leads : next t ≡ i)
    (others : (j : ℕ) → j ≢ t → next j ≡ lead j) where
  abbrev pub hit : ℕ → Bool
  hit = hit_by u t i bits lead

  pub hit_not : hit t ≡ false
  hit_not = rw (eq-eqb t t refl) (and_no (not (ltb (lead t) u)))

  -- the mask of the pivot row
  at_pivot : (c : ℕ) → mask_in u (suc i) now next t c ≡ mask_in u i bits lead t c
  at_pivot c = rw (leads, lt-ltb i u below, unled) (⊎_elim
      (λ lt. rw (ne_eqb c i (λ e. omega (arith, e)), le-ltb i c (omega arith), lt-ltb c i lt) refl)
      (⊎_elim (λ e. rw e (rw (eq-eqb i i refl, le-ltb i i (omega arith)) (sym holds)))
      (λ gt. rw (ne_eqb c i (λ e. omega (arith, e)), lt-ltb i c gt, le-ltb c i (omega arith))
      (cleared.pivot c ∙ ap (bool_xor (bits t c)) (ne_eqb c i (λ e. omega (arith, e)))
      ∙ xor_none (bits t c))))
      (which c i))

  -- the mask of a row that leads an unknown
  at_led : (j c : ℕ) → j ≢ t → ltb (lead j) u ≡ true → mask_in u (suc i) now next j c ≡ mask_in u i
      bits lead j c
  at_led j c ne led = rw (others j ne, led) (ap (λ b. (c == lead j) || (ltb (lead j) c && b))
      (cleared.other j c ne (rw led refl)))

  -- the mask of a row that has i and leads nothing
  at_hit : (j c : ℕ) → j ≢ t → ltb (lead j) u ≡ false → bits j i ≡ true
      → mask_in u (suc i) now next j c ≡ bool_xor (mask_in u i bits lead j c)
      (mask_in u i bits lead t c)
  unfolding bool_xor
  at_hit j c ne free has = rw (others j ne, free, unled) (⊎_elim
      (λ lt. rw (lt-ltb c i lt, lt-ltb c (suc i) (omega arith)) refl)
      (⊎_elim (λ e. rw e (rw (lt-ltb i (suc i) (omega arith), le-ltb i i (omega arith), has, holds)
      refl))
      (λ gt. rw (le-ltb c (suc i) (omega arith), le-ltb c i (omega arith)) (cleared.hit j c is_hit
      ∙ ap (bool_xor (bits j c)) (cleared.pivot c
      ∙ ap (bool_xor (bits t c)) (ne_eqb c i (λ e. omega (arith, e))) ∙ xor_none (bits t c)))))
      (which c i))
    where
      is_hit : hit_by u t i bits lead j ≡ true
      is_hit = rw (free, ne_eqb j t ne, has) refl

  -- the mask of a row that hasn't i and leads nothing
  at_clear : (j c : ℕ) → j ≢ t → ltb (lead j) u ≡ false → bits j i ≡ false
      → mask_in u (suc i) now next j c ≡ mask_in u i bits lead j c
  at_clear j c ne free has = rw (others j ne, free) (ap (λ b. not (ltb c (suc i)) && b)
      (cleared.other j c ne (rw (free, has) (and_no (not (j == t))))) ∙ ⊎_elim
      (λ lt. rw (lt-ltb c i lt, lt-ltb c (suc i) (omega arith)) refl)
      (⊎_elim (λ e. rw e (rw (lt-ltb i (suc i) (omega arith), le-ltb i i (omega arith), has) refl))
      (λ gt. rw (le-ltb c (suc i) (omega arith), le-ltb c i (omega arith)) refl))
      (which c i))

  pub masks_after : (j c : ℕ) → mask_in u (suc i) now next j c ≡ mask_after hit t
      (mask_in u i bits lead) j c
  masks_after j c = ⊎_elim (λ e. rw e (rw hit_not (at_pivot c))) (λ ne. by_lead ne (ltb (lead j) u)
      refl (bits j i) refl) (cases_eq j t)
    where
      by_lead : j ≢ t → (b : Bool) → ltb (lead j) u ≡ b → (d : Bool) → bits j i ≡ d
          → mask_in u (suc i) now next j c ≡ mask_after hit t (mask_in u i bits lead) j c
      by_lead ne true e d f = at_led j c ne e ∙ rw e refl
      by_lead ne false e true f = at_hit j c ne e f ∙ rw (e, f, ne_eqb j t ne) refl
      by_lead ne false e false f = at_clear j c ne e f ∙ rw (e, f, ne_eqb j t ne) refl

-- ---- sums

module _ {G : Type 0} (o : G) (add : G → G → G) (laws : XorLaws G o add) where
  -- masks that agree, and what x and y give to their members
  pub product_on : (u : ℕ) (a b : Set) (x y : ℕ → G) → ((c : ℕ) → a c ≡ b c)
      → ((c : ℕ) → c < u → a c ≡ true → x c ≡ y c) → product o add u a x ≡ product o add u b y
  product_on u a b x y same h = total_same o add laws _ _ (range_with_len 0 u)
      (λ k d lt. at_each (get_or (range_with_len 0 u) k d) (range_below u k d lt))
    where
      at_each : (c : ℕ) → c < u → cond (a c) (x c) o ≡ cond (b c) (y c) o
      at_each c lt = by_case (a c) refl
        where
          by_case : (t : Bool) → a c ≡ t → cond (a c) (x c) o ≡ cond (b c) (y c) o
          by_case true e = rw (← same c) (rw e (h c lt e))
          by_case false e = rw (← same c) (rw e refl)

  -- the product of one unknown alone
  pub product_one : (u p : ℕ) (x : ℕ → G) → p < u → product o add u (λ c. c == p) x ≡ x p
  product_one u p x lt = total_at o add laws u p (λ c. cond (c == p) (x c) o) lt
      (λ c lt2 ne. rw (ne_eqb c p ne) refl) ∙ rw (eq-eqb p p refl) refl

  module _ (u t i : ℕ) (lead next : ℕ → ℕ) (bits now : ℕ
      → Set) (cleared : IsCleared u t i lead bits now) (below : i < u)
      (unled : ltb (lead t) u ≡ false) (holds : bits t i ≡ true) (leads : next t ≡ i)
      (others : (j : ℕ) → j ≢ t → next j ≡ lead j)
      (early : (j : ℕ) → ltb (lead j) u ≡ true → lead j < i)
      (pivot_row more : ℕ → ℕ) (same : (p : ℕ) → p < i → more p ≡ pivot_row p) (joins : more i ≡ t)
      (first : ℕ → G) where
    abbrev pub sum_now : ℕ → G
    sum_now = sum_in o add u (suc i) now next more first

    abbrev pub sum_before : ℕ → G
    sum_before = sum_in o add u i bits lead pivot_row first

    at_first : (p : ℕ) → p < i → first (more p) ≡ first (pivot_row p)
    at_first p lt = ap first (same p lt)

    before : (p n : ℕ) (b : Bool) → (ltb p n && b) ≡ true → p < n
    before p n b e = ⊎_elim (λ lt. lt) (λ le. absurd (true≢false (sym e ∙ rw (le-ltb p n le) refl)))
        (cases_lt p n)

    sum_pivot : sum_now t ≡ sum_before t
    sum_pivot = ap (add (first t)) (product_on u (taken_in u (suc i) now next t)
        (taken_in u i bits lead t) (λ p. first (more p)) (λ p. first (pivot_row p))
        (λ p. rw (leads, lt-ltb i u below, unled) (⊎_elim
        (λ lt. rw (lt-ltb p i lt) (cleared.pivot p
        ∙ ap (bool_xor (bits t p)) (ne_eqb p i (λ e. omega (arith, e))) ∙ xor_none (bits t p)))
        (λ le. rw (le-ltb p i le) refl) (cases_lt p i)))
        (λ p lt2 e. at_first p (before p i (now t p) (sym (rw (leads, lt-ltb i u below) refl)
        ∙ e))))

    sum_led : (j : ℕ) → j ≢ t → ltb (lead j) u ≡ true → sum_now j ≡ sum_before j
    sum_led j ne led = ap (add (first j)) (product_on u (taken_in u (suc i) now next j)
        (taken_in u i bits lead j) (λ p. first (more p)) (λ p. first (pivot_row p))
        (λ p. rw (others j ne, led) (ap (λ b. ltb p (lead j) && b)
        (cleared.other j p ne (rw led refl))))
        (λ p lt2 e. at_first p (let lt : p < lead j = before p (lead j) (now j p)
        (sym (rw (others j ne, led) refl) ∙ e) in omega (arith, early j led))))

    sum_clear : (j : ℕ) → j ≢ t → ltb (lead j) u ≡ false → bits j i ≡ false
        → sum_now j ≡ sum_before j
    sum_clear j ne free has = ap (add (first j)) (product_on u (taken_in u (suc i) now next j)
        (taken_in u i bits lead j) (λ p. first (more p)) (λ p. first (pivot_row p))
        masks
        (λ p lt2 e. at_first p (before p i (bits j p) (sym (rw free refl) ∙ sym (masks p) ∙ e))))
      where
        masks : (p : ℕ) → taken_in u (suc i) now next j p ≡ taken_in u i bits lead j p
        masks p = rw (others j ne, free)
            (ap (λ b. ltb p (suc i) && b) (cleared.other j p ne
            (rw (free, has) (and_no (not (j == t))))) ∙ ⊎_elim
            (λ lt. rw (lt-ltb p i lt, lt-ltb p (suc i) (omega arith)) refl)
            (⊎_elim (λ e. rw e (rw (lt-ltb i (suc i) (omega arith), le-ltb i i (omega arith), has)
            refl))
            (λ gt. rw (le-ltb p (suc i) (omega arith), le-ltb p i (omega arith)) refl))
            (which p i))

    -- what went into a row that is hit: what had gone into it and into row t, and row t
    sum_hit : (j : ℕ) → j ≢ t → ltb (lead j) u ≡ false → bits j i ≡ true
        → sum_now j ≡ add (sum_before j) (sum_before t)
    unfolding bool_xor
    sum_hit j ne free has =
        ap (add (first j)) (product_on u (taken_in u (suc i) now next j)
        (λ p. bool_xor (bool_xor (ltb p i && bits j p) (ltb p i && bits t p)) (p == i))
        (λ p. first (more p)) then_first
        masks (λ p lt2 e. then_is p)
        ∙ product_xor o add laws u (λ p. bool_xor (ltb p i && bits j p) (ltb p i && bits t p))
        (λ p. p == i) then_first
        ∙ ap₂ add (product_xor o add laws u (λ p. ltb p i && bits j p) (λ p. ltb p i && bits t p)
        then_first
        ∙ ap₂ add (old j) (old t)) (product_one u i then_first below ∙ then_at))
        ∙ moved (first j) (first t) (product o add u (λ p. ltb p i && bits j p)
        (λ p. first (pivot_row p))) (product o add u (λ p. ltb p i && bits t p)
        (λ p. first (pivot_row p)))
        ∙ ap₂ add (rw free refl) (rw unled refl)
      where
        -- the first sums of the pivot rows, and of row t at i
        then_first : ℕ → G
        then_first p = first (more p)

        then_is : (p : ℕ) → first (more p) ≡ then_first p
        then_is p = refl

        then_at : then_first i ≡ first t
        then_at = ap first joins

        old : (k : ℕ) → product o add u (λ p. ltb p i && bits k p) then_first ≡ product o add u
            (λ p. ltb p i && bits k p) (λ p. first (pivot_row p))
        old k = product_on u (λ p. ltb p i && bits k p) (λ p. ltb p i && bits k p) then_first
            (λ p. first (pivot_row p)) (λ p. refl) (λ p lt2 e. at_first p (before p i (bits k p) e))

        masks : (p : ℕ) → taken_in u (suc i) now next j p
            ≡ bool_xor (bool_xor (ltb p i && bits j p) (ltb p i && bits t p)) (p == i)
        masks p = rw (others j ne, free) (ap (λ b. ltb p (suc i) && b) (cleared.hit j p is_hit
            ∙ ap (bool_xor (bits j p)) (cleared.pivot p)) ∙ ⊎_elim
            (λ lt. rw (
              lt-ltb p i lt,
              lt-ltb p (suc i) (omega arith),
              ne_eqb p i (λ e. omega (arith, e)),
            ) (ap (bool_xor (bits j p)) (xor_none (bits t p))
            ∙ sym (xor_none _)))
            (⊎_elim (λ e. rw e (rw (
              lt-ltb i (suc i) (omega arith),
              le-ltb i i (omega arith),
              has,
              holds,
              eq-eqb i i refl,
            ) refl))
            (λ gt. rw (
              le-ltb p (suc i) (omega arith),
              le-ltb p i (omega arith),
              ne_eqb p i (λ e. omega (arith, e)),
            ) refl))
            (which p i))
          where
            is_hit : hit_by u t i bits lead j ≡ true
            is_hit = rw (free, ne_eqb j t ne, has) refl

        moved : (a b p q : G) → add a (add (add p q) b) ≡ add (add a p) (add b q)
        moved a b p q = ap (add a) (laws.assoc p q b ∙ ap (add p) (laws.comm q b))
            ∙ sym (laws.assoc a p (add b q))

    pub sums_after : (j : ℕ) → sum_now j ≡ sum_after add (hit_by u t i bits lead) t sum_before j
    sums_after j = ⊎_elim (λ e. rw e (sum_pivot
        ∙ rw (hit_not u t i lead next bits now cleared below unled holds leads others) refl))
        (λ ne. by_lead ne (ltb (lead j) u) refl (bits j i) refl) (cases_eq j t)
      where
        by_lead : j ≢ t → (b : Bool) → ltb (lead j) u ≡ b → (d : Bool) → bits j i ≡ d
            → sum_now j ≡ sum_after add (hit_by u t i bits lead) t sum_before j
        by_lead ne true e d f = sum_led j ne e ∙ rw e refl
        by_lead ne false e true f = sum_hit j ne e f ∙ rw (e, f, ne_eqb j t ne) refl
        by_lead ne false e false f = sum_clear j ne e f ∙ rw (e, f, ne_eqb j t ne) refl
