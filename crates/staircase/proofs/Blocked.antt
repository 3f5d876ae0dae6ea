-- How many of the choices are rows that have a column already.
use Rattle.std.proofs.Common.{◌≡◌, ℕ, ◌+◌, ◌<◌, ◌≤◌, Bool, true, false, not, cond, ◌==◌, eq-eqb}
use Rattle.std.proofs.Common.{List, [], ◌∷◌, length, get_or, count_by, refl, ap, ◌∙◌, arith}
use Rattle.std.specs.List.{list_any}
use Rattle.std.proofs.lemmas.Bool.{eqb-true}
use Rattle.std.proofs.lemmas.List.Sums.{sum_by-cons, count_by-le-length}
use Rattle.sparse_rows.specs.Matrix.{Matrix, is_in, has_entry, with_entry}
use Rattle.staircase.specs.LeftSide.{without}
use Rattle.staircase.specs.Left.{IsFilled}
use Rattle.staircase.specs.Choices.{blocked_count}
use Rattle.staircase.proofs.Counted.{sum_by-without}
use Rattle.staircase.proofs.Filled.{lacks_bound, has_entry-with, row_of-with_other}

count_yes : (p : ℕ → Bool) (x : ℕ) (xs : List ℕ) → p x ≡ true
    → count_by p (x ∷ xs) ≡ 1 + count_by p xs
count_yes p x xs e = sum_by-cons (λ y. cond (p y) 1 0) x xs ∙ ap (λ b. cond b 1 0 + count_by p xs) e

count_no : (p : ℕ → Bool) (x : ℕ) (xs : List ℕ) → p x ≡ false → count_by p (x ∷ xs) ≡ count_by p xs
count_no p x xs e = sum_by-cons (λ y. cond (p y) 1 0) x xs ∙ ap (λ b. cond b 1 0 + count_by p xs) e
    ∙ (let none : 0 + count_by p xs ≡ count_by p xs = omega arith in none)

-- some choice is free where fewer are blocked than there are, and none where all are
pub some_free : (p : ℕ → Bool) (xs : List ℕ) → count_by p xs < length xs
    → list_any (λ x. not (p x)) xs ≡ true
some_free p [] lt = absurd (omega arith)
some_free p (x ∷ xs) lt = by_case (p x) refl (some_free p xs)
  where
    by_case : (b : Bool) → p x ≡ b
        → (count_by p xs < length xs → list_any (λ y. not (p y)) xs ≡ true)
        → list_any (λ y. not (p y)) (x ∷ xs) ≡ true
    by_case true e rest = rw e (rest (omega (arith, count_yes p x xs e)))
    by_case false e rest = rw e refl

pub none_free : (p : ℕ → Bool) (xs : List ℕ) → length xs ≤ count_by p xs
    → list_any (λ x. not (p x)) xs ≡ false
none_free p [] le = refl
none_free p (x ∷ xs) le = by_case (p x) refl (none_free p xs)
  where
    by_case : (b : Bool) → p x ≡ b
        → (length xs ≤ count_by p xs → list_any (λ y. not (p y)) xs ≡ false)
        → list_any (λ y. not (p y)) (x ∷ xs) ≡ false
    by_case true e rest = rw e (rest (omega (arith, count_yes p x xs e)))
    by_case false e rest = absurd (omega (arith, count_no p x xs e, count_by-le-length p xs))

-- no choice is blocked for a column that no row has
pub none_blocked : (k n c : ℕ) (m : Matrix) (xs : List ℕ) → IsFilled k n c m
    → blocked_count m c xs ≡ 0
none_blocked k n c m [] filled = refl
none_blocked k n c m (x ∷ xs) filled =
    count_no (λ r. has_entry m r c) x xs (lacks_bound k n c x m filled)
    ∙ none_blocked k n c m xs filled

-- a free choice that is taken leaves as many blocked
pub blocked_without : (m : Matrix) (c : ℕ) (xs : List ℕ) (i : ℕ) → i < length xs
    → has_entry m (get_or xs i 0) c ≡ false → blocked_count m c (without xs i) ≡ blocked_count m c
    xs
blocked_without m c xs i lt free = let taken =
    rw free at (sum_by-without (λ r. cond (has_entry m r c) 1 0) xs i lt) in omega (arith, taken)

-- with a new entry the choices that are its row are blocked too
pub blocked_with : (m : Matrix) (r c : ℕ) (xs : List ℕ) → r < length m.rows
    → has_entry m r c ≡ false → blocked_count (with_entry m r c) c xs ≡ blocked_count m c xs +
    count_by (λ x. x == r) xs
blocked_with m r c [] lt free = refl
blocked_with m r c (x ∷ xs) lt free = by_case (x == r) refl (blocked_with m r c xs lt free)
  where
    by_case : (b : Bool) → (x == r) ≡ b → blocked_count (with_entry m r c) c xs ≡ blocked_count m c
        xs + count_by (λ y. y == r) xs
        → blocked_count (with_entry m r c) c (x ∷ xs) ≡ blocked_count m c (x ∷ xs) + count_by
        (λ y. y == r) (x ∷ xs)
    by_case true e rest =
        let same : x ≡ r = eqb-true x r e in
        let new = count_yes (λ y. has_entry (with_entry m r c) y c) x xs
        (rw same (has_entry-with m r c lt)) in
        let old = count_no (λ y. has_entry m y c) x xs (rw same free) in
        omega (arith, new, old, count_yes (λ y. y == r) x xs e, rest)
    by_case false e rest =
        let other : has_entry (with_entry m r c) x c ≡ has_entry m x c =
        ap (λ columns. is_in columns c)
        (row_of-with_other m r c x (λ same. absurd (cc (e, eq-eqb x r same)))) in
        let new = sum_by-cons (λ y. cond (has_entry (with_entry m r c) y c) 1 0) x xs in
        let old = sum_by-cons (λ y. cond (has_entry m y c) 1 0) x xs in
        let weight = ap (λ b. let one : ℕ = cond b 1 0 in one) other in
        omega (arith, new, old, weight, count_no (λ y. y == r) x xs e, rest)
