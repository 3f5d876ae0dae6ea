-- The closure: it comes to rest, and what it holds.
use mathlib.Core.Path.{fun_ext}
use Rattle.std.proofs.lemmas.Bool.{cases_lt}
use Rattle.std.proofs.Common.{le_refl, zero-add, ap₂, add-suc, add-zero, zero-le, true≢false}
use Rattle.std.proofs.Common.{⊎_elim, ◌≡◌, ℕ, zero, suc, ◌+◌, ◌<◌, ◌≤◌, ◌⊎◌, inl, inr, Bool, true}
use Rattle.std.proofs.Common.{false, not, cond, List, [], ◌∷◌, length, get_or, All, Any, Contains}
use Rattle.std.proofs.Common.{refl, sym, ap, ◌∙◌, subst, arith, ltb-true}
use Rattle.std.proofs.lemmas.List.Elements.{All-head, All-filter}
use Rattle.sparse_rows.specs.Matrix.{Matrix, HasShape}
use Rattle.sparse_rows.specs.Closure.{Set, IsWithin, HasSameMembers, outside, round, rounds}
use Rattle.sparse_rows.specs.Closure.{closure}
use Rattle.sparse_rows.proofs.Shape.{below, row_below, last_outside, last_or_before}
use Rattle.sparse_rows.proofs.Sets.{rounds_within, round_holds, outside_one, round_row, round_cases}
use Rattle.sparse_rows.proofs.Sets.{same_test}

-- a fixed set that holds the columns before the last of a row holds that one
source_step : (m : Matrix) → HasShape m → (t : Set) → HasSameMembers (round m t) t → (i : ℕ)
    → i < length m.rows → ((c : ℕ) → c < m.k + i → t c ≡ true) → t (m.k + i) ≡ true
source_step m shape t fixed i lt h = ⊎_elim (λ f. f.0) (λ f. sym (fixed (m.k + i))
    ∙ round_row m t (m.k + i) i lt f.1)
    (outside_one (below (m.k + i)) t (λ c e. h c (ltb-true c (m.k + i) e)) (get_or m.rows i [])
    (m.k + i) (last_outside m shape i lt))

-- a fixed set that holds the source columns holds those below each bound
pub source_fills : (m : Matrix) → HasShape m → (t : Set) → HasSameMembers (round m t) t
    → ((c : ℕ) → c < m.k → t c ≡ true)
    → (b : ℕ) → b ≤ length m.rows → (c : ℕ) → c < m.k + b → t c ≡ true
source_fills m shape t fixed source zero le c lt = source c (rw add-zero at lt)
source_fills m shape t fixed source (suc b) le c lt =
    let ih : (d : ℕ) → d < m.k + b → t d ≡ true = source_fills m shape t fixed source b
    (omega arith) in
    ⊎_elim (λ e. rw e (source_step m shape t fixed b le ih)) (λ lt2. ih c lt2)
    (last_or_before c (m.k + b) (rw add-suc at lt))

-- ---- the rounds come to rest within n

-- how many columns below n are not in the set
gap : ℕ → Set → ℕ
gap zero s = 0
gap (suc n) s = cond (s n) 0 1 + gap n s

gap_most : (n : ℕ) (s : Set) → gap n s ≤ n
unfolding gap
gap_most zero s = zero-le
gap_most (suc n) s = by_case (s n) (gap_most n s)
  where
    by_case : (b : Bool) → gap n s ≤ n → cond b 0 1 + gap n s ≤ suc n
    by_case true h = omega arith
    by_case false h = omega arith

-- a larger set leaves fewer, or the same columns
gap_step : (n : ℕ) (s t : Set) → IsWithin s t → (gap n t < gap n s)
    ⊎ ((gap n t ≡ gap n s) × ((c : ℕ) → c < n → t c ≡ s c))
unfolding gap
gap_step zero s t h = inr (refl, λ c lt. absurd (omega arith))
gap_step (suc n) s t h = by_case (s n) (t n) refl refl (gap_step n s t h)
  where
    by_case : (a b : Bool) → s n ≡ a → t n ≡ b → (gap n t < gap n s)
        ⊎ ((gap n t ≡ gap n s) × ((c : ℕ) → c < n → t c ≡ s c))
        → (cond (t n) 0 1 + gap n t < cond (s n) 0 1 + gap n s)
        ⊎ ((cond (t n) 0 1 + gap n t ≡ cond (s n) 0 1 + gap n s) × ((c : ℕ) → c < suc n
        → t c ≡ s c))
    by_case true true e f (inl lt) = rw (e, f) (inl (omega arith))
    by_case false false e f (inl lt) = rw (e, f) (inl (omega arith))
    by_case false true e f (inl lt) = rw (e, f) (inl (omega arith))
    by_case true false e f r = absurd (true≢false (sym (h n e) ∙ f))
    by_case false true e f (inr r) = rw (e, f) (inl (omega arith))
    by_case true true e f (inr r) =
        inr (
          ap₂ ◌+◌ (rw (e, f) refl) r.0,
          λ c lt. ⊎_elim (λ z. rw z (f ∙ sym e)) (λ lt2. r.1 c lt2)
              (last_or_before c n lt),
        )
    by_case false false e f (inr r) =
        inr (
          ap₂ ◌+◌ (rw (e, f) refl) r.0,
          λ c lt. ⊎_elim (λ z. rw z (f ∙ sym e)) (λ lt2. r.1 c lt2)
              (last_or_before c n lt),
        )

-- a round adds no column from n on
round_above : (m : Matrix) → HasShape m → (s : Set) (c : ℕ) → m.n ≤ c → round m s c ≡ s c
round_above m shape s c le = same_test _ _
    (λ e. ⊎_elim (λ f. f) (λ r. absurd (not_there r)) (round_cases m s c e))
    (λ e. round_holds m s c e)
  where
    not_there : (r : (i : ℕ) × (i < length m.rows) × (outside s (get_or m.rows i []) ≡ c ∷ [])) → ⊥
    not_there r = let P : ℕ → Type 0 = λ d. d < m.n in
        let all : All P (outside s (get_or m.rows r.0 [])) = All-filter (λ d. not (s d)) P
        (get_or m.rows r.0 []) (row_below m shape r.0 r.1) in
        let lt : c < m.n = All-head P c [] (subst (All P) r.2 all) in omega arith

-- after i rounds the set is at rest, or at most n - i columns are left
rest_or_gap : (m : Matrix) → HasShape m → (s : Set) (i : ℕ)
    → HasSameMembers (round m (rounds m i s)) (rounds m i s) ⊎ (gap m.n (rounds m i s) + i ≤ m.n)
rest_or_gap m shape s zero = inr (rw add-zero (gap_most m.n s))
rest_or_gap m shape s (suc i) = ⊎_elim (λ f. inl (λ c. ap (λ z. round m z c) (fun_ext f)))
    (λ (le : gap m.n (rounds m i s) + i ≤ m.n). ⊎_elim
    (λ (lt : gap m.n (round m (rounds m i s)) < gap m.n (rounds m i s)). inr
    (rw add-suc (omega arith))) (λ r. inl
    (λ c. ap (λ z. round m z c) (fun_ext (λ d. same r.1 d))))
    (gap_step m.n (rounds m i s) (round m (rounds m i s)) (round_holds m (rounds m i s))))
    (rest_or_gap m shape s i)
  where
    same : ((c : ℕ) → c < m.n → round m (rounds m i s) c ≡ rounds m i s c) → (d : ℕ)
        → round m (rounds m i s) d ≡ rounds m i s d
    same h d = ⊎_elim (λ lt. h d lt) (λ le. round_above m shape (rounds m i s) d le)
        (cases_lt d m.n)

gap_none : (n : ℕ) (s : Set) → gap n s ≡ 0 → (c : ℕ) → c < n → s c ≡ true
unfolding gap
gap_none zero s e c lt = absurd (omega arith)
gap_none (suc n) s e c lt = by_case (s n) refl (gap_none n s)
  where
    by_case : (b : Bool) → s n ≡ b → (gap n s ≡ 0 → (d : ℕ) → d < n → s d ≡ true) → s c ≡ true
    by_case true f ih = ⊎_elim (λ z. rw z f) (λ lt2. ih (rw (zero-add) at (rw f at e)) c lt2)
        (last_or_before c n lt)
    by_case false f ih = let z : 1 + gap n s ≡ 0 = rw f at e in absurd (omega arith)

-- ---- the closure

-- a set with all columns is at rest
full_rests : (m : Matrix) → HasShape m → (t : Set) → ((c : ℕ) → c < m.n → t c ≡ true)
    → HasSameMembers (round m t) t
full_rests m shape t h c = ⊎_elim (λ lt. round_holds m t c (h c lt) ∙ sym (h c lt))
    (λ le. round_above m shape t c le) (cases_lt c m.n)

-- a round adds nothing to the closure
pub closure_rests : (m : Matrix) → HasShape m → (s : Set)
    → HasSameMembers (round m (closure m s)) (closure m s)
closure_rests m shape s = ⊎_elim (λ h. h)
    (λ le. full_rests m shape (closure m s) (gap_none m.n (closure m s) (omega arith)))
    (rest_or_gap m shape s m.n)

contains_single : (c d : ℕ) → Contains (c ∷ []) d → c ≡ d
contains_single c d (zero, lt, e) = e
contains_single c d (suc i, lt, e) = absurd (omega (arith, lt))

any_single : (c k : ℕ) → Any (λ d. d < k) (c ∷ []) → c < k
any_single c k (zero, x, lt, e, p) = rw (← e) at p
any_single c k (suc i, x, lt, e, p) = absurd (omega (arith, lt))

-- a round adds nothing to no columns
none_rests : (m : Matrix) → HasShape m → HasSameMembers (round m (λ c. false)) (λ c. false)
none_rests m shape c = same_test _ _ (λ e. ⊎_elim (λ f. f) (λ r. absurd (not_there r))
    (round_cases m (λ d. false) c e)) (λ f. absurd (true≢false (sym f)))
  where
    whole : (row : List ℕ) → outside (λ d. false) row ≡ row
    whole [] = refl
    whole (d ∷ row) = ap (λ z. d ∷ z) (whole row)

    not_there : (r : (i : ℕ) × (i < length m.rows)
        × (outside (λ d. false) (get_or m.rows i []) ≡ c ∷ [])) → ⊥
    not_there r =
        let e : get_or m.rows r.0 [] ≡ c ∷ [] = sym (whole _) ∙ r.2 in
        let shape_r = shape.row r.0 r.1 in
        let a : c ≡ m.k + r.0 = contains_single c (m.k + r.0)
        (subst (λ row. Contains row (m.k + r.0)) e shape_r.holds) in
        let b : c < m.k = any_single c m.k (subst (λ row. Any (λ d. d < m.k) row) e shape_r.source)
        in
        omega arith

pub closure_none : (m : Matrix) → HasShape m → HasSameMembers (closure m (λ c. false)) (λ c. false)
closure_none m shape c = same_test _ _ (rounds_within m m.n (λ d. false) (λ d. false) (λ d e. e)
    (none_rests m shape) c) (λ f. absurd (true≢false (sym f)))

-- a closure that holds the source columns holds all
pub closure_full : (m : Matrix) → HasShape m → (s : Set)
    → ((c : ℕ) → c < m.k → closure m s c ≡ true) → (c : ℕ) → c < m.n → closure m s c ≡ true
closure_full m shape s h c lt = source_fills m shape (closure m s) (closure_rests m shape s) h
    (length m.rows) (le_refl _) c (rw shape.count lt)
