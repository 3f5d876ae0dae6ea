-- What the shape of a matrix says of its rows.
use Rattle.std.proofs.Common.{zero-le, le_of_eq, le_of_suc-le-suc, eq-or-lt_of_le, ◌≡◌, ℕ, zero}
use Rattle.std.proofs.Common.{suc, ◌+◌, ◌<◌, ◌≤◌, ◌⊎◌, true, false, List, [], ◌∷◌, length, get_or}
use Rattle.std.proofs.Common.{All, Contains, sym, ap, arith, suc-add, ltb, lt-ltb, le-ltb}
use Rattle.std.proofs.Common.{suc-le-suc}
use Rattle.std.specs.List.Sorted.{IsStrictlyIncreasing}
use Rattle.std.proofs.lemmas.List.Elements.{All-tail}
use Rattle.sparse_rows.specs.Matrix.{Matrix, HasShape}
use Rattle.sparse_rows.specs.Closure.{Set, outside}

-- the columns below a bound
abbrev pub below : ℕ → Set
below n column = ltb column n

pub rising_tail : (x : ℕ) (xs : List ℕ) → IsStrictlyIncreasing (x ∷ xs) → IsStrictlyIncreasing xs
rising_tail x xs h k lt = rw suc-add at (h (suc k) (rw suc-add (suc-le-suc lt)))

-- the only column of a row outside those below its last is its last
pub last_alone : (p : ℕ) (row : List ℕ) → IsStrictlyIncreasing row → Contains row p
    → All (λ c. c ≤ p) row → outside (below p) row ≡ p ∷ []
last_alone p [] rising holds within = absurd (omega (arith, holds.1))
last_alone p (x ∷ []) rising (zero, lt, e) within = let f : ltb x p ≡ false =
    le-ltb x p (omega (arith, le_of_eq (sym e))) in rw f (ap (λ z. z ∷ []) e)
last_alone p (x ∷ []) rising (suc k, lt, e) within = absurd (omega (arith, lt))
last_alone p (x ∷ y ∷ ys) rising (zero, lt, e) within =
    let lt2 : x < y = rising 0 (suc-le-suc (suc-le-suc zero-le)) in
    let le2 : y ≤ p = within 1 0 (suc-le-suc (suc-le-suc zero-le)) in
    absurd (omega (arith, e))
last_alone p (x ∷ y ∷ ys) rising (suc k, lt, e) within =
    let lt2 : x < y = rising 0 (suc-le-suc (suc-le-suc zero-le)) in
    let le2 : y ≤ p = within 1 0 (suc-le-suc (suc-le-suc zero-le)) in
    let f : ltb x p ≡ true = lt-ltb x p (omega arith) in
    rw f (last_alone p (y ∷ ys) (rising_tail x (y ∷ ys) rising) (k, le_of_suc-le-suc lt, e)
    (All-tail (λ c. c ≤ p) x (y ∷ ys) within))

-- each column of a row is below n
pub row_below : (m : Matrix) → HasShape m → (i : ℕ) → i < length m.rows
    → All (λ c. c < m.n) (get_or m.rows i [])
row_below m shape i h k d lt = let r = (shape.row i h).within k d lt in let e = shape.count in
    omega arith

-- row i has no column from k + i on but k + i
pub last_outside : (m : Matrix) → HasShape m → (i : ℕ) → i < length m.rows
    → outside (below (m.k + i)) (get_or m.rows i []) ≡ (m.k + i) ∷ []
last_outside m shape i h = let r = shape.row i h in last_alone (m.k + i) (get_or m.rows i [])
    r.rising r.holds r.within

-- the last column below a bound, or one before
pub last_or_before : (c p : ℕ) → c < suc p → (c ≡ p) ⊎ (c < p)
last_or_before c p lt = eq-or-lt_of_le (le_of_suc-le-suc lt)
