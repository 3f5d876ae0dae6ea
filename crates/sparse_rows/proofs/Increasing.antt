-- Rising lists of columns.
use Rattle.std.proofs.Common.{true≢false, ⊎_elim, ◌≡◌, ℕ, ◌<◌, ◌⊎◌, inl, inr, true, ◌==◌, List, []}
use Rattle.std.proofs.Common.{◌∷◌, refl, sym, ap₂, ◌∙◌, arith, eqb-true, eq-eqb, suc-le-suc}
use Rattle.std.proofs.Common.{zero-le}
use Rattle.std.specs.List.Sorted.{IsStrictlyIncreasing}
use Rattle.sparse_rows.specs.Matrix.{is_in}
use Rattle.sparse_rows.proofs.Shape.{rising_tail}
use Rattle.sparse_rows.proofs.Sets.{same_test, or_cases, or_first, or_second}

head_below : (x : ℕ) (xs : List ℕ) → IsStrictlyIncreasing (x ∷ xs) → (c : ℕ) → is_in xs c ≡ true
    → x < c
head_below x [] rising c e = absurd (cc)
head_below x (y ∷ ys) rising c e = ⊎_elim (λ h. let z : y ≡ c = eqb-true y c h in omega (arith, lt))
    (λ h. let lt2 : y < c = head_below y ys (rising_tail x (y ∷ ys) rising) c h in
    omega (arith, lt)) (or_cases (y == c) _ e)
  where
    lt : x < y
    lt = rising 0 (suc-le-suc (suc-le-suc zero-le))

-- rising lists with the same columns are equal
pub rising_same : (a b : List ℕ) → IsStrictlyIncreasing a → IsStrictlyIncreasing b
    → ((c : ℕ) → is_in a c ≡ is_in b c) → a ≡ b
rising_same [] [] ra rb h = refl
rising_same [] (y ∷ b) ra rb h =
    absurd (true≢false (sym (or_first (y == y) (is_in b y) (eq-eqb y y refl)) ∙ sym (h y)))
rising_same (x ∷ a) [] ra rb h =
    absurd (true≢false (sym (or_first (x == x) (is_in a x) (eq-eqb x x refl)) ∙ h x))
rising_same (x ∷ a) (y ∷ b) ra rb h = ap₂ (λ z zs. z ∷ zs) heads
    (rising_same a b (rising_tail x a ra) (rising_tail y b rb) tails)
  where
    y_in : (y ≡ x) ⊎ (x < y)
    y_in = ⊎_elim (λ e. inl (sym (eqb-true x y e))) (λ e. inr (head_below x a ra y e))
        (or_cases (x == y) (is_in a y) (h y ∙ or_first (y == y) _ (eq-eqb y y refl)))

    x_in : (x ≡ y) ⊎ (y < x)
    x_in = ⊎_elim (λ e. inl (sym (eqb-true y x e))) (λ e. inr (head_below y b rb x e))
        (or_cases (y == x) (is_in b x) (sym (h x) ∙ or_first (x == x) _ (eq-eqb x x refl)))

    heads : x ≡ y
    heads = ⊎_elim (λ e. e) (λ lt. ⊎_elim (λ e. sym e) (λ lt2. absurd (omega arith)) y_in) x_in

    tails : (c : ℕ) → is_in a c ≡ is_in b c
    tails c = same_test _ _
        (λ e. let lt = head_below x a ra c e in ⊎_elim (λ f. let z : y ≡ c = eqb-true y c f in
        absurd (omega (arith, heads))) (λ f. f)
        (or_cases (y == c) _ (sym (h c) ∙ or_second (x == c) _ e)))
        (λ e. let lt = head_below y b rb c e in ⊎_elim (λ f. let z : x ≡ c = eqb-true x c f in
        absurd (omega (arith, heads))) (λ f. f)
        (or_cases (x == c) _ (h c ∙ or_second (y == c) _ e)))
