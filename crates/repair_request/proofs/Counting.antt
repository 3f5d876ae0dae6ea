-- Counting the columns of rising lists.
use Rattle.std.proofs.Common.{⊎_elim, ◌⊎◌, inl, inr, ◌≡◌, ℕ, ◌<◌, ◌≤◌, Bool, true, false, not, ◌==◌, List, []}
use Rattle.std.proofs.Common.{◌∷◌, length, filter, refl, sym, ap, ◌∙◌, subst, arith, eqb-true, eq-eqb}
use Rattle.std.proofs.Common.{suc-le-suc, zero-le, true≢false}
use Rattle.std.specs.List.Sorted.{IsStrictlyIncreasing}
use Rattle.std.proofs.lemmas.Bool.{ne_eqb}
use Rattle.std.proofs.lemmas.List.Sums.{count_by-le-length, length-filter}
use Rattle.sparse_rows.specs.Matrix.{is_in}
use Rattle.sparse_rows.proofs.Null.{in_filter}
use Rattle.sparse_rows.proofs.Shape.{rising_tail}
use Rattle.sparse_rows.proofs.Sets.{or_cases, or_first, or_second, true_or_false}

-- the first of a rising list is below those behind it
head_below : (x : ℕ) (xs : List ℕ) → IsStrictlyIncreasing (x ∷ xs) → (c : ℕ) → is_in xs c ≡ true
    → x < c
head_below x [] rising c e = absurd (cc)
head_below x (y ∷ ys) rising c e =
    let lt : x < y = rising 0 (suc-le-suc (suc-le-suc zero-le)) in
    ⊎_elim (λ h. let z : y ≡ c = eqb-true y c h in omega (arith, lt))
    (λ h. let lt2 : y < c = head_below y ys (rising_tail x (y ∷ ys) rising) c h in
    omega (arith, lt)) (or_cases (y == c) _ e)

-- a list without a column
pub without : ℕ → List ℕ → List ℕ
without q xs = filter (λ c. not (q == c)) xs

pub without_in : (q : ℕ) (xs : List ℕ) (c : ℕ) → is_in xs c ≡ true → (q ≡ c → ⊥)
    → is_in (without q xs) c ≡ true
unfolding without
without_in q xs c e differ = in_filter (λ c. not (q == c)) xs c e (ap not (ne_eqb q c differ))

without_short : (q : ℕ) (xs : List ℕ) → length (without q xs) ≤ length xs
unfolding without
without_short q xs = rw (length-filter (λ c. not (q == c)) xs)
    (count_by-le-length (λ c. not (q == c)) xs)

-- it is shorter where it had the column
pub without_shorter : (q : ℕ) (xs : List ℕ) → is_in xs q ≡ true
    → length (without q xs) < length xs
unfolding without
without_shorter q [] e = absurd (cc)
without_shorter q (x ∷ xs) e = by_case (q == x) refl (without_shorter q xs)
  where
    by_case : (b : Bool) → (q == x) ≡ b
        → (is_in xs q ≡ true → length (filter (λ c. not (q == c)) xs) < length xs)
        → length (filter (λ c. not (q == c)) (x ∷ xs)) < length (x ∷ xs)
    by_case true f again = let short = without_short q xs in rw f (suc-le-suc short)
    by_case false f again = let shorter : length (filter (λ c. not (q == c)) xs) < length xs =
        again (⊎_elim
        (λ g. absurd (true≢false (sym (eq-eqb q x (sym (eqb-true x q g))) ∙ f))) (λ g. g)
        (or_cases (x == q) _ e)) in rw f (suc-le-suc shorter)

-- a rising list whose columns another one has isn't longer
pub fewer : (xs ys : List ℕ) → IsStrictlyIncreasing xs
    → ((c : ℕ) → is_in xs c ≡ true → is_in ys c ≡ true) → length xs ≤ length ys
fewer [] ys rising within = zero-le
fewer (x ∷ xs) ys rising within =
    let less = without_shorter x ys (within x (or_first (x == x) _ (eq-eqb x x refl))) in
    let rest : length xs ≤ length (without x ys) = fewer xs (without x ys)
    (rising_tail x xs rising)
    (λ c e. let lt = head_below x xs rising c e in
    without_in x ys c (within c (or_second (x == c) _ e)) (λ same. omega (arith, lt))) in
    omega arith

-- some column of a list isn't in another, or all are
pub some_out : (xs ys : List ℕ) → ((c : ℕ) × (is_in xs c ≡ true) × (is_in ys c ≡ false))
    ⊎ ((c : ℕ) → is_in xs c ≡ true → is_in ys c ≡ true)
some_out [] ys = inr (λ c e. absurd (cc))
some_out (x ∷ xs) ys = ⊎_elim
    (λ r. inl (r.0, or_second (x == r.0) _ r.1, r.2))
    (λ all. ⊎_elim
    (λ t. inr (λ c e. ⊎_elim (λ f. subst (λ d. is_in ys d ≡ true) (eqb-true x c f) t) (all c)
    (or_cases (x == c) _ e)))
    (λ f. inl (x, or_first (x == x) _ (eq-eqb x x refl), f)) (true_or_false (is_in ys x)))
    (some_out xs ys)
