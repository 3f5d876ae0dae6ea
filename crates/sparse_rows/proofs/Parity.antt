-- Whether a row has an even number of a set's columns, as a sum of bits.
use Rattle.std.proofs.Common.{◌≡◌, ℕ, ◌+◌, ◌%◌, Bool, true, false, cond, List, [], ◌∷◌, count_by}
use Rattle.std.proofs.Common.{refl, sym, ◌∙◌, arith}
use Rattle.std.proofs.Math.Bool.{xor as bool_xor}
use Rattle.std.proofs.lemmas.List.Sums.{sum_by-cons}
use Rattle.sparse_rows.specs.Closure.{Set}
use Rattle.sparse_rows.proofs.Algebra.{XorLaws}
use Rattle.sparse_rows.specs.Totals.{total}

pub bit_laws : XorLaws Bool false bool_xor
unfolding bool_xor
bit_laws = record { left = left; comm = comm; assoc = assoc; self = self }
  where
    left : (a : Bool) → bool_xor false a ≡ a
    left true = refl
    left false = refl

    comm : (a b : Bool) → bool_xor a b ≡ bool_xor b a
    comm true true = refl
    comm true false = refl
    comm false true = refl
    comm false false = refl

    assoc : (a b c : Bool) → bool_xor (bool_xor a b) c ≡ bool_xor a (bool_xor b c)
    assoc true true true = refl
    assoc true true false = refl
    assoc true false true = refl
    assoc true false false = refl
    assoc false true true = refl
    assoc false true false = refl
    assoc false false true = refl
    assoc false false false = refl

    self : (a : Bool) → bool_xor a a ≡ false
    self true = refl
    self false = refl

-- how many columns of the row are in the set, odd or even
pub parity : (s : Set) (row : List ℕ) → count_by s row % 2 ≡ cond (total false bool_xor s row) 1 0
unfolding bool_xor
parity s [] = refl
parity s (c ∷ row) = rw (sum_by-cons (λ d. cond (s d) 1 0) c row)
    (by_case (s c) (total false bool_xor s row) (parity s row))
  where
    by_case : (a b : Bool) → count_by s row % 2 ≡ cond b 1 0 → (cond a 1 0 + count_by s row) % 2
        ≡ cond (bool_xor a b) 1 0
    by_case true true e = omega arith
    by_case true false e = omega arith
    by_case false true e = omega arith
    by_case false false e = omega arith

pub even_from : (s : Set) (row : List ℕ) → total false bool_xor s row ≡ false
    → count_by s row % 2 ≡ 0
even_from s row e = parity s row ∙ rw e refl

pub even_to : (s : Set) (row : List ℕ) → count_by s row % 2 ≡ 0 → total false bool_xor s row ≡ false
even_to s row e = by_case (total false bool_xor s row) (sym (parity s row) ∙ e)
  where
    by_case : (b : Bool) → ◌≡◌ {A = ℕ} (cond b 1 0) 0 → b ≡ false
    by_case true f = absurd (omega arith)
    by_case false f = refl
