-- What agrees on a set and makes the rows sum alike agrees on the closure.
use Rattle.std.proofs.Common.{true≢false, ⊎_elim, ◌≡◌, ℕ, zero, suc, ◌<◌, ◌≤◌, Bool, true, false}
use Rattle.std.proofs.Common.{List, [], ◌∷◌, length, get_or, All, refl, sym, ◌∙◌, arith, le_refl}
use Rattle.std.proofs.lemmas.List.Elements.{All-nil, All-cons}
use Rattle.sparse_rows.specs.Matrix.{Matrix}
use Rattle.sparse_rows.specs.Closure.{Set, IsWithin, outside, round, rounds, closure}
use Rattle.sparse_rows.proofs.Algebra.{XorLaws, one_left}
use Rattle.sparse_rows.specs.Totals.{total}
use Rattle.sparse_rows.proofs.Sets.{round_cases, rounds_more, outside_one, round_holds}

-- a row with no column outside a set lies within it
pub row_within : (s : Set) (row : List ℕ) → outside s row ≡ [] → All (λ c. s c ≡ true) row
row_within s [] e = All-nil (λ c. s c ≡ true)
row_within s (c ∷ row) e = by_case (s c) refl (row_within s row)
  where
    by_case : (b : Bool) → s c ≡ b → (outside s row ≡ [] → All (λ d. s d ≡ true) row)
        → All (λ d. s d ≡ true) (c ∷ row)
    by_case true f ih = All-cons (λ d. s d ≡ true) c row f (ih (rw f at e))
    by_case false f ih = let z : c ∷ outside s row ≡ [] = rw f at e in absurd (cc)

-- what the sum over each row that lies within a set does
abbrev pub SameWithin : {G : Type 0} → G → (G → G → G) → Matrix → Set → (ℕ → G) → (ℕ → G) → Type 0
SameWithin o add m t x y = (i : ℕ) → i < length m.rows → All (λ c. t c ≡ true) (get_or m.rows i [])
    → total o add x (get_or m.rows i []) ≡ total o add y (get_or m.rows i [])

module _ {G : Type 0} (o : G) (add : G → G → G) (laws : XorLaws G o add) where
  -- one round further
  agree_round : (m : Matrix) (s t : Set) (x y : ℕ → G) → IsWithin (round m s) t
      → SameWithin o add m t x y
      → ((c : ℕ) → s c ≡ true → x c ≡ y c) → (c : ℕ) → round m s c ≡ true → x c ≡ y c
  agree_round m s t x y within same h c e = ⊎_elim (h c)
      (λ r. ⊎_elim
      (λ f. one_left o add laws s x y h (get_or m.rows r.0 []) c r.2
      (same r.0 r.1 (row_within t (get_or m.rows r.0 []) f.1)))
      (λ f. absurd (true≢false (sym (within c e) ∙ f.0)))
      (outside_one s t (λ d f. within d (round_holds m s d f)) (get_or m.rows r.0 []) c r.2))
      (round_cases m s c e)

  agree_rounds : (m : Matrix) (s : Set) (x y : ℕ → G) → SameWithin o add m (closure m s) x y
      → ((c : ℕ) → s c ≡ true → x c ≡ y c) → (i : ℕ) → i ≤ m.n → (c : ℕ) → rounds m i s c ≡ true
      → x c ≡ y c
  agree_rounds m s x y same h zero le c e = h c e
  agree_rounds m s x y same h (suc i) le c e = agree_round m (rounds m i s) (closure m s) x y
      (rounds_more m s (suc i) m.n le) same (agree_rounds m s x y same h i (omega arith)) c e

  -- what agrees on a set, and makes each row within the closure sum alike, agrees on the closure
  pub agree_closure : (m : Matrix) (s : Set) (x y : ℕ → G) → SameWithin o add m (closure m s) x y
      → ((c : ℕ) → s c ≡ true → x c ≡ y c) → (c : ℕ) → closure m s c ≡ true → x c ≡ y c
  agree_closure m s x y same h = agree_rounds m s x y same h m.n (le_refl m.n)
