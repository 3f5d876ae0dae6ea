-- The last column of a rising list.
use Rattle.std.proofs.Common.{⊎_elim, ◌≡◌, ◌≢◌, ℕ, ◌<◌, ◌≤◌, true, ◌==◌, List, [], ◌∷◌, refl, arith}
use Rattle.std.proofs.Common.{eqb-true, eq-eqb, suc-le-suc, zero-le}
use Rattle.std.specs.List.Sorted.{IsStrictlyIncreasing}
use Rattle.sparse_rows.specs.Matrix.{is_in}
use Rattle.sparse_rows.specs.NullWord.{last_of}
use Rattle.sparse_rows.proofs.Shape.{rising_tail}
use Rattle.sparse_rows.proofs.Sets.{or_cases, or_first, or_second}

pub last_in : (word : List ℕ) → word ≢ [] → is_in word (last_of word) ≡ true
last_in [] h = absurd (h refl)
last_in (x ∷ []) h = or_first (x == x) _ (eq-eqb x x refl)
last_in (x ∷ y ∷ zs) h = or_second (x == last_of (y ∷ zs)) _ (last_in (y ∷ zs) (λ e. cc))

pub last_most : (word : List ℕ) → IsStrictlyIncreasing word → (c : ℕ) → is_in word c ≡ true
    → c ≤ last_of word
last_most [] rising c e = absurd (cc)
last_most (x ∷ []) rising c e = ⊎_elim (λ h. let z : x ≡ c = eqb-true x c h in omega arith)
    (λ h. absurd (cc)) (or_cases (x == c) _ e)
last_most (x ∷ y ∷ zs) rising c e = ⊎_elim
    (λ h. let z : x ≡ c = eqb-true x c h in
    let lt : x < y = rising 0 (suc-le-suc (suc-le-suc zero-le)) in
    let le : y ≤ last_of (y ∷ zs) = last_most (y ∷ zs) (rising_tail x (y ∷ zs) rising) y
    (or_first (y == y) _ (eq-eqb y y refl)) in omega arith)
    (last_most (y ∷ zs) (rising_tail x (y ∷ zs) rising) c)
    (or_cases (x == c) _ e)
