-- At most one null word is the first: the sum of two with the same last column would end before it.
use Rattle.std.proofs.Common.{le_antisymm, true≢false, ⊎_elim, ◌≡◌, ℕ, ◌<◌, ◌≤◌, ◌⊎◌, inl, inr}
use Rattle.std.proofs.Common.{Bool, true, false, List, [], length, get_or, All, refl, sym, ap₂, ◌∙◌}
use Rattle.std.specs.List.{range_with_len}
use Rattle.std.proofs.Math.Bool.{xor as bool_xor}
use Rattle.sparse_rows.specs.Matrix.{Matrix, is_in}
use Rattle.sparse_rows.specs.Closure.{Set, members}
use Rattle.sparse_rows.specs.NullWord.{IsNullWord, IsFirstNullWord, last_of}
use Rattle.sparse_rows.proofs.Algebra.{total_add}
use Rattle.sparse_rows.proofs.Parity.{bit_laws}
use Rattle.sparse_rows.proofs.Sets.{true_or_false}
use Rattle.sparse_rows.proofs.Null.{in_all, null_even, null_of, null_outside, passes}
use Rattle.sparse_rows.proofs.Increasing.{rising_same}
use Rattle.null_witness.proofs.Increasing.{last_in, last_most}

pub xor_same : (x y : Bool) → bool_xor x y ≡ false → x ≡ y
unfolding bool_xor
xor_same true true e = refl
xor_same true false e = absurd (true≢false e)
xor_same false true e = absurd (true≢false e)
xor_same false false e = refl

pub xor_one : (x y : Bool) → bool_xor x y ≡ true
    → ((x ≡ true) × (y ≡ false)) ⊎ ((x ≡ false) × (y ≡ true))
unfolding bool_xor
xor_one true true e = absurd (true≢false (sym e))
xor_one true false e = inl (refl, refl)
xor_one false true e = inr (refl, refl)
xor_one false false e = absurd (true≢false (sym e))

-- at most one null word is the first
pub first_is_one : (m : Matrix) → (s : Set) (a b : List ℕ)
    → ((i : ℕ) → i < length m.rows → All (λ d. d < m.n) (get_or m.rows i []))
    → IsFirstNullWord m s a → IsFirstNullWord m s b → a ≡ b
first_is_one m s a b rows_below fa fb = rising_same a b fa.null.rising fb.null.rising
    (λ c. ⊎_elim (λ e. absurd (differ c e)) (λ e. xor_same _ _ e) (true_or_false (sum c)))
  where
    sum : Set
    sum c = bool_xor (is_in a c) (is_in b c)

    same_last : last_of a ≡ last_of b
    same_last = le_antisymm (fa.least b fb.null) (fb.least a fa.null)

    sum_null : (c : ℕ) → sum c ≡ true → IsNullWord m s (members m.n sum)
    sum_null c e = null_of m rows_below s sum c
        (⊎_elim (λ f. in_all (λ d. d < m.n) a fa.null.below c f.0)
        (λ f. in_all (λ d. d < m.n) b fb.null.below c f.1) (xor_one _ _ e)) e
        (λ d f. ap₂ bool_xor (null_outside m s a fa.null d f) (null_outside m s b fb.null d f)
        ∙ bit_laws.self false)
        (λ i lt. total_add false bool_xor bit_laws (is_in a) (is_in b) (get_or m.rows i [])
        ∙ ap₂ bool_xor (null_even m s a fa.null i lt) (null_even m s b fb.null i lt)
        ∙ bit_laws.self false)

    last_sum : (c : ℕ) → sum c ≡ true → sum (last_of (members m.n sum)) ≡ true
    last_sum c e = passes sum (range_with_len 0 m.n) _
        (last_in (members m.n sum) (sum_null c e).nonempty)

    differ : (c : ℕ) → sum c ≡ true → ⊥
    differ c e =
        let q = last_of (members m.n sum) in
        let most : q ≤ last_of a = ⊎_elim (λ f. last_most a fa.null.rising q f.0)
        (λ f. rw same_last (last_most b fb.null.rising q f.1)) (xor_one _ _ (last_sum c e)) in
        let z : q ≡ last_of a = le_antisymm most (fa.least _ (sum_null c e)) in
        let in_a : is_in a q ≡ true = rw z (last_in a fa.null.nonempty) in
        let in_b : is_in b q ≡ true = rw (z, same_last) (last_in b fb.null.nonempty) in
        ⊎_elim (λ f. true≢false (sym in_b ∙ f.1)) (λ f. true≢false (sym in_a ∙ f.0))
        (xor_one _ _ (last_sum c e))
