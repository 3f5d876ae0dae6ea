-- What a row has behind an unknown.
use Rattle.std.proofs.Common.{◌≡◌, ℕ, ◌<◌, ◌≤◌, ⊎_elim, Bool, true, false, cond, ◌&&◌, refl, sym}
use Rattle.std.proofs.Common.{◌∙◌, true≢false, ltb, get_or}
use Rattle.std.specs.List.{range_with_len}
use Rattle.std.proofs.lemmas.Bool.{lt-ltb, le-ltb, cases_lt}
use Rattle.sparse_rows.specs.Closure.{Set}
use Rattle.sparse_rows.proofs.Algebra.{XorLaws, total_same}
use Rattle.gauss.specs.Elimination.{product}
use Rattle.gauss.proofs.Clearing.{product_on}

module _ {G : Type 0} (o : G) (add : G → G → G) (laws : XorLaws G o add) where
  -- what stands behind p is the same where the unknowns behind p are
  pub behind_same : (u p : ℕ) (mask : Set) (x y : ℕ → G) → ((c : ℕ) → p < c → c < u → x c ≡ y c)
      → product o add u (λ c. ltb p c && mask c) x ≡ product o add u (λ c. ltb p c && mask c) y
  behind_same u p mask x y h = product_on o add laws u (λ c. ltb p c && mask c)
      (λ c. ltb p c && mask c) x y (λ c. refl) (λ c lt e. h c (low (mask c) c e) lt)
    where
      low : (t : Bool) (c : ℕ) → (ltb p c && t) ≡ true → p < c
      low t c e = ⊎_elim (λ lt. lt) (λ le. absurd (true≢false (sym e ∙ rw (le-ltb p c le) refl)))
          (cases_lt p c)

  -- what x doesn't have up to p, the row needn't have
  pub product_behind : (u p : ℕ) (mask : Set) (x : ℕ → G) → ((c : ℕ) → c ≤ p → x c ≡ o)
      → product o add u mask x ≡ product o add u (λ c. ltb p c && mask c) x
  product_behind u p mask x none = total_same o add laws _ _ (range_with_len 0 u)
      (λ k d lt. at (get_or (range_with_len 0 u) k d))
    where
      by_case : (b : Bool) (v : G) → v ≡ o → cond b v o ≡ o
      by_case true v e = e
      by_case false v e = refl

      at : (c : ℕ) → cond (mask c) (x c) o ≡ cond (ltb p c && mask c) (x c) o
      at c = ⊎_elim (λ gt. rw (lt-ltb p c gt) refl)
          (λ le. rw (le-ltb p c le) (by_case (mask c) (x c) (none c le))) (cases_lt p c)
