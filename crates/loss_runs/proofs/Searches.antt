-- Searches that end: for the least number, and for a list of truth values.
use Rattle.std.proofs.Common.{◌≡◌, ℕ, zero, suc, ◌<◌, ◌≤◌, ◌⊎◌, inl, inr, ⊎_elim, Bool, true, false}
use Rattle.std.proofs.Common.{List, [], ◌∷◌, length, Decides, refl, sym, arith, eq-or-lt_of_le}
use Rattle.std.proofs.Common.{subst}

-- what a test decides holds, or it doesn't
pub holds_or_not : (P : Type 0) (test : Bool) → Decides test P → P ⊎ (¬ P)
holds_or_not P true decides = inl (decides.0 refl)
holds_or_not P false decides = inr (λ p. let wrong : false ≡ true = decides.1 p in absurd (cc))

-- a number that P holds of, and of none before it
abbrev pub IsLeast : (ℕ → Type 0) → ℕ → Type 0
IsLeast P p = P p × ((q : ℕ) → q < p → ¬ P q)

module _ (P : ℕ → Type 0) (either : (n : ℕ) → P n ⊎ (¬ P n)) where
  abbrev Found : ℕ → Type 0
  Found n = (p : ℕ) × (p ≤ n) × IsLeast P p

  one_more : (n : ℕ) → ((q : ℕ) → q ≤ n → ¬ P q) → P (suc n) ⊎ (¬ P (suc n))
      → Found (suc n) ⊎ ((q : ℕ) → q ≤ suc n → ¬ P q)
  one_more n none here = ⊎_elim
      (λ (p : P (suc n)). inl (suc n, omega arith, (p, λ q lt. none q (omega arith))))
      (λ (no_p : ¬ P (suc n)). inr (λ q le. ⊎_elim
      (λ (same : q ≡ suc n). subst (λ i. ¬ P i) (sym same) no_p)
      (λ (lt : q < suc n). none q (omega arith)) (eq-or-lt_of_le le)))
      here

  -- up to a number there is the least one, or there is none
  pub least : (n : ℕ) → Found n ⊎ ((q : ℕ) → q ≤ n → ¬ P q)
  least zero = ⊎_elim
      (λ (p : P 0). inl (0, omega arith, (p, λ q lt. absurd (omega (arith, lt)))))
      (λ (no_p : ¬ P 0). inr (λ q le. subst (λ i. ¬ P i) (let z : 0 ≡ q = omega arith in z) no_p))
      (either 0)
  least (suc n) = ⊎_elim
      (λ (f : Found n). inl (f.0, omega (arith, f.1), f.2))
      (λ (none : (q : ℕ) → q ≤ n → ¬ P q). one_more n none (either (suc n)))
      (least n)

-- of the lists of so many truth values there is one that P holds of, or there is none
pub some_bits : (n : ℕ) (P : List Bool → Type 0) → ((l : List Bool) → P l ⊎ (¬ P l))
    → ((l : List Bool) × P l) ⊎ ((l : List Bool) → length l ≡ n → ¬ P l)
some_bits zero P either = ⊎_elim
    (λ (p : P []). inl ([], p))
    (λ (no_p : ¬ P []). inr (λ l none. empty l none no_p))
    (either []) where
      empty : (l : List Bool) → length l ≡ 0 → ¬ P [] → ¬ P l
      empty [] none no_p = no_p
      empty (b ∷ l) none no_p = absurd (omega arith)
some_bits (suc n) P either = both
    (some_bits n (λ l. P (true ∷ l)) (λ l. either (true ∷ l)))
    (some_bits n (λ l. P (false ∷ l)) (λ l. either (false ∷ l))) where
      split : ((l : List Bool) → length l ≡ n → ¬ P (true ∷ l))
          → ((l : List Bool) → length l ≡ n → ¬ P (false ∷ l))
          → (l : List Bool) → length l ≡ suc n → ¬ P l
      split ones zeros [] long = absurd (omega arith)
      split ones zeros (true ∷ l) long = ones l (omega arith)
      split ones zeros (false ∷ l) long = zeros l (omega arith)

      both : ((l : List Bool) × P (true ∷ l)) ⊎ ((l : List Bool) → length l ≡ n → ¬ P (true ∷ l))
          → ((l : List Bool) × P (false ∷ l)) ⊎ ((l : List Bool) → length l ≡ n → ¬ P (false ∷ l))
          → ((l : List Bool) × P l) ⊎ ((l : List Bool) → length l ≡ suc n → ¬ P l)
      both (inl a) second = inl (true ∷ a.0, a.1)
      both (inr ones) (inl b) = inl (false ∷ b.0, b.1)
      both (inr ones) (inr zeros) = inr (split ones zeros)
