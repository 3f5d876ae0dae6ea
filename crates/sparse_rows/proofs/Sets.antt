-- Rows, rounds and the closure.
use Rattle.std.proofs.Common.{true≢false, ⊎_elim, eq-or-lt_of_le, ◌≡◌, ℕ, zero, suc, ◌<◌, ◌≤◌, ◌⊎◌}
use Rattle.std.proofs.Common.{inl, inr, Bool, true, false, ◌||◌, List, [], ◌∷◌, length, get_or}
use Rattle.std.proofs.Common.{refl, sym, ap, ◌∙◌, arith, suc-le-suc, eqb-true, eq-eqb}
use Rattle.std.specs.List.{list_any}
use Rattle.sparse_rows.specs.Matrix.{Matrix}
use Rattle.sparse_rows.specs.Closure.{Set, IsWithin, HasSameMembers, outside, is_single, round}
use Rattle.sparse_rows.specs.Closure.{rounds}

-- a test that passes at some element passes at an index
pub any_at : {X : Type 0} (p : X → Bool) (d : X) (xs : List X) → list_any p xs ≡ true
    → (i : ℕ) × (i < length xs) × (p (get_or xs i d) ≡ true)
any_at p d [] e = absurd (cc)
any_at p d (x ∷ xs) e = by_case (p x) refl (any_at p d xs)
  where
    by_case : (b : Bool) → p x ≡ b → (list_any p xs ≡ true → (i : ℕ) × (i < length xs)
        × (p (get_or xs i d) ≡ true)) → (i : ℕ) × (i < length (x ∷ xs))
        × (p (get_or (x ∷ xs) i d) ≡ true)
    by_case true e' ih = (0, omega arith, e')
    by_case false e' ih = let r = ih (rw e' at e) in (suc r.0, suc-le-suc r.1, r.2)

pub any_from : {X : Type 0} (p : X → Bool) (d : X) (xs : List X) (i : ℕ) → i < length xs
    → p (get_or xs i d) ≡ true → list_any p xs ≡ true
any_from p d [] i h e = absurd (omega arith)
any_from p d (x ∷ xs) zero h e = rw e refl
any_from p d (x ∷ xs) (suc i) h e = by_case (p x) (any_from p d xs i (omega arith) e)
  where
    by_case : (b : Bool) → list_any p xs ≡ true → (b || list_any p xs) ≡ true
    by_case true ih = refl
    by_case false ih = ih

pub single_is : (c : ℕ) (cs : List ℕ) → is_single c cs ≡ true → cs ≡ c ∷ []
single_is c [] e = absurd (cc)
single_is c (d ∷ []) e = ap (λ z. z ∷ []) (eqb-true _ _ e)
single_is c (d ∷ d' ∷ ds) e = absurd (cc)

pub is_single_of : (c : ℕ) (cs : List ℕ) → cs ≡ c ∷ [] → is_single c cs ≡ true
is_single_of c cs e = rw e (eq-eqb c c refl)

pub or_cases : (a b : Bool) → (a || b) ≡ true → (a ≡ true) ⊎ (b ≡ true)
or_cases true b e = inl refl
or_cases false b e = inr e

pub or_first : (a b : Bool) → a ≡ true → (a || b) ≡ true
or_first a b e = rw e refl

pub or_second : (a b : Bool) → b ≡ true → (a || b) ≡ true
or_second true b e = refl
or_second false b e = e

pub or_none : (b : Bool) → (b || false) ≡ b
or_none true = refl
or_none false = refl

pub or_true : (b : Bool) → (b || true) ≡ true
or_true true = refl
or_true false = refl

-- tests that pass together are equal
pub same_test : (a b : Bool) → (a ≡ true → b ≡ true) → (b ≡ true → a ≡ true) → a ≡ b
same_test true b f g = sym (f refl)
same_test false true f g = g refl
same_test false false f g = refl

pub true_or_false : (b : Bool) → (b ≡ true) ⊎ (b ≡ false)
true_or_false true = inl refl
true_or_false false = inr refl

-- ---- a round

pub round_holds : (m : Matrix) (s : Set) → IsWithin s (round m s)
round_holds m s c e = or_first _ _ e

pub round_row : (m : Matrix) (s : Set) (c i : ℕ) → i < length m.rows
    → outside s (get_or m.rows i []) ≡ c ∷ [] → round m s c ≡ true
round_row m s c i h e = or_second (s c) _ (any_from (λ row. is_single c (outside s row)) [] m.rows i
    h (is_single_of c _ e))

pub round_cases : (m : Matrix) (s : Set) (c : ℕ) → round m s c ≡ true
    → (s c ≡ true) ⊎ ((i : ℕ) × (i < length m.rows) × (outside s (get_or m.rows i []) ≡ c ∷ []))
round_cases m s c e = ⊎_elim inl (λ h. let r = any_at (λ row. is_single c (outside s row)) [] m.rows
    h in inr (r.0, r.1, single_is c _ r.2)) (or_cases (s c) _ e)

-- what is outside a larger set is what is outside it of what is outside the smaller
pub outside_within : (s t : Set) → IsWithin s t → (row : List ℕ)
    → outside t row ≡ outside t (outside s row)
outside_within s t h [] = refl
outside_within s t h (c ∷ row) = by_case (s c) (t c) refl refl (outside_within s t h row)
  where
    by_case : (a b : Bool) → s c ≡ a → t c ≡ b → outside t row ≡ outside t (outside s row)
        → outside t (c ∷ row) ≡ outside t (outside s (c ∷ row))
    by_case true true e f ih = rw (e, f) ih
    by_case true false e f ih = absurd (true≢false (sym (h c e) ∙ f))
    by_case false true e f ih = rw (e, f) ih
    by_case false false e f ih = rw (e, f) (ap (λ z. c ∷ z) ih)

-- a row with one column outside a set has none or the same outside a larger one
pub outside_one : (s t : Set) → IsWithin s t → (row : List ℕ) (c : ℕ) → outside s row ≡ c ∷ []
    → (t c ≡ true × outside t row ≡ []) ⊎ (t c ≡ false × outside t row ≡ c ∷ [])
outside_one s t h row c e = by_case (t c) refl
  where
    joined : outside t row ≡ outside t (c ∷ [])
    joined = outside_within s t h row ∙ ap (outside t) e

    by_case : (b : Bool) → t c ≡ b → (t c ≡ true × outside t row ≡ [])
        ⊎ (t c ≡ false × outside t row ≡ c ∷ [])
    by_case true f = inl (f, joined ∙ rw f refl)
    by_case false f = inr (f, joined ∙ rw f refl)

pub round_grows : (m : Matrix) (s t : Set) → IsWithin s t → IsWithin (round m s) (round m t)
round_grows m s t h c e = ⊎_elim
    (λ f. round_holds m t c (h c f))
    (λ r. ⊎_elim (λ f. round_holds m t c f.0) (λ f. round_row m t c r.0 r.1 f.1)
    (outside_one s t h (get_or m.rows r.0 []) c r.2))
    (round_cases m s c e)

-- ---- some rounds

pub rounds_hold : (m : Matrix) (i : ℕ) (s : Set) → IsWithin s (rounds m i s)
rounds_hold m zero s c e = e
rounds_hold m (suc i) s c e = round_holds m (rounds m i s) c (rounds_hold m i s c e)

pub rounds_grow : (m : Matrix) (i : ℕ) (s t : Set) → IsWithin s t
    → IsWithin (rounds m i s) (rounds m i t)
rounds_grow m zero s t h = h
rounds_grow m (suc i) s t h = round_grows m (rounds m i s) (rounds m i t) (rounds_grow m i s t h)

pub rounds_more : (m : Matrix) (s : Set) (i j : ℕ) → i ≤ j → IsWithin (rounds m i s) (rounds m j s)
rounds_more m s i zero h c e = let z : i ≡ 0 = omega arith in rw z at e
rounds_more m s i (suc j) h c e = ⊎_elim
    (λ z. rw z at e)
    (λ (lt : i < suc j). round_holds m (rounds m j s) c (rounds_more m s i j (omega arith) c e))
    (eq-or-lt_of_le h)

-- the rounds stay within a fixed set that holds the first
pub rounds_within : (m : Matrix) (i : ℕ) (s t : Set) → IsWithin s t → HasSameMembers (round m t) t
    → IsWithin (rounds m i s) t
rounds_within m zero s t h fixed c e = h c e
rounds_within m (suc i) s t h fixed c e = sym (fixed c) ∙ round_grows m (rounds m i s) t
    (rounds_within m i s t h fixed) c e
