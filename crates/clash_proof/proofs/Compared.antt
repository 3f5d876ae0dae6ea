-- What tests of options and of symbols tell.
use Rattle.std.proofs.Common.{◌≡◌, ◌≢◌, ℕ, Bool, true, false, not, ◌==◌, List, refl, sym, ◌∙◌}
use Rattle.std.proofs.Common.{true≢false}
use Rattle.std.specs.Prelude.{Option, Some, None, is_some}
use Rattle.std.specs.Cmp.Lexicographic.{pointwise}
use Rattle.std.proofs.lemmas.Slice.Eq.{slice_eq-Decides}
use Rattle.std.specs.Cmp.{unsigned_Decides}

pub some_is : {X : Type 0} (o : Option X) → is_some o ≡ true → (x : X) × (o ≡ Some x)
some_is None e = absurd (true≢false (sym e))
some_is (Some x) e = (x, refl)

pub none_is : {X : Type 0} (o : Option X) → is_some o ≡ false → o ≡ None
none_is None e = refl
none_is (Some x) e = absurd (true≢false e)

not_same : (b : Bool) → not b ≡ true → b ≡ true → true ≡ false
not_same true e f = sym e
not_same false e f = sym f

is_same : (b : Bool) → not b ≡ false → b ≡ true
is_same true e = refl
is_same false e = absurd (true≢false e)

pub bytes_differ : (xs ys : List ℕ) (r : Bool) → r ≡ not (pointwise ◌==◌ xs ys) → r ≡ true
    → xs ≢ ys
bytes_differ xs ys r e f same = true≢false (not_same (pointwise ◌==◌ xs ys) (sym e ∙ f)
    ((slice_eq-Decides unsigned_Decides xs ys (pointwise ◌==◌ xs ys) refl).1 same))

pub bytes_same : (xs ys : List ℕ) (r : Bool) → r ≡ not (pointwise ◌==◌ xs ys) → r ≡ false
    → xs ≡ ys
bytes_same xs ys r e f = (slice_eq-Decides unsigned_Decides xs ys (pointwise ◌==◌ xs ys) refl).0
    (is_same (pointwise ◌==◌ xs ys) (sym e ∙ f))
