-- How peeling goes on, row by row.
use Rattle.std.proofs.Common.{◌≡◌, ℕ, ◌<◌, ⊎_elim, true, false, cond, ◌==◌, List, [], ◌∷◌, length}
use Rattle.std.proofs.Common.{get_or, All, refl, sym, ap, ◌∙◌, subst, true≢false, eqb-true, eq-eqb}
use Rattle.std.proofs.Common.{bit_xor}
use Rattle.std.proofs.lemmas.Bool.{ne_eqb}
use Rattle.fec_base.specs.Symbol.{xor_sum, zero_symbol}
use Rattle.sparse_rows.specs.Matrix.{Matrix, HasShape}
use Rattle.sparse_rows.specs.Codeword.{IsAssignment, SumsToZeroWithin}
use Rattle.sparse_rows.specs.Closure.{Set, IsWithin, HasSameMembers, outside, adding, round}
use Rattle.sparse_rows.specs.Closure.{closure}
use Rattle.sparse_rows.proofs.Algebra.{one_left, closes}
use Rattle.sparse_rows.specs.Totals.{total}
use Rattle.fec_base.proofs.SymbolBytes.{byte, byte_zero, same_bytes}
use Rattle.sparse_rows.proofs.Planes.{byte_laws, byte_sum, plane_zero, length_sum}
use Rattle.peeling.specs.Agree.{Agree}
use Rattle.peeling.specs.Peeled.{IsAtRest, IsPeeled}
use Rattle.sparse_rows.proofs.Sets.{same_test, or_cases, or_first, outside_one, round_row}
use Rattle.sparse_rows.proofs.Sets.{round_cases, round_holds, rounds_hold, rounds_within}
use Rattle.peeling.proofs.Closure.{closure_rests}
use Rattle.sparse_rows.proofs.Closed.{row_within}
use Rattle.peeling.proofs.Laid.{keeping}

-- where peeling begins
pub peeled_none : (m : Matrix) (len : ℕ) (s : Set) (x : ℕ → List ℕ) → IsPeeled m len s x s x
peeled_none m len s x = record {
  holds = λ c e. e;
  within = rounds_hold m m.n s;
  keeps = λ c e. refl;
  forced = λ z is rows agree. agree;
}

-- peeling goes on where it stood
pub peeled_on : (m : Matrix) → HasShape m → (len : ℕ) (s t u : Set) (x y z : ℕ → List ℕ)
    → IsPeeled m len s x t y → IsPeeled m len t y u z → IsPeeled m len s x u z
peeled_on m shape len s t u x y z p q = record {
  holds = λ c e. q.holds c (p.holds c e);
  within = λ c e. inside c (q.within c e);
  keeps = λ c e. p.keeps c e ∙ q.keeps c (p.holds c e);
  forced = λ w is rows agree. q.forced w is
      (λ i d lt all. rows i d lt (λ j b lt2. inside _ (all j b lt2))) (p.forced w is rows agree);
}
  where
    inside : IsWithin (closure m t) (closure m s)
    inside = rounds_within m m.n t (closure m s) p.within (closure_rests m shape s)

-- a set whose rows are all at rest is at rest
pub rows_rest : (m : Matrix) (s : Set)
    → ((i : ℕ) → i < length m.rows → IsAtRest s (get_or m.rows i [])) → HasSameMembers (round m s) s
rows_rest m s h c = same_test _ _ (λ e. ⊎_elim (λ f. f) (λ r. absurd (h r.0 r.1 c r.2))
    (round_cases m s c e)) (round_holds m s c)

-- peeling that came to rest has reached the closure
pub peeled_all : (m : Matrix) (len : ℕ) (s t : Set) (x y : ℕ → List ℕ) → IsPeeled m len s x t y
    → HasSameMembers (round m t) t → HasSameMembers t (closure m s)
peeled_all m len s t x y p rests c = same_test _ _ (p.within c)
    (rounds_within m m.n s t p.holds rests c)

-- ---- one row

module _ (m : Matrix) (shape : HasShape m) (len : ℕ) (s : Set) (x : ℕ
    → List ℕ) (is : IsAssignment len x) (r d : ℕ) (lt : r < length m.rows)
    (one : outside s (get_or m.rows r []) ≡ d ∷ []) where
  -- the single column isn't in the set
  pub unknown : s d ≡ false
  unknown = ⊎_elim (λ f. absurd (cc (one, f.1))) (λ f. f.0)
      (outside_one s s (λ c e. e) (get_or m.rows r []) d one)

  -- it is in the closure, and so is the whole row
  inside : closure m s d ≡ true
  inside = ⊎_elim (λ f. f.0) (λ f. sym (closure_rests m shape s d) ∙ round_row m (closure m s) d r
      lt f.1)
      (outside_one s (closure m s) (rounds_hold m m.n s) (get_or m.rows r []) d one)

  whole : All (λ c. closure m s c ≡ true) (get_or m.rows r [])
  whole = ⊎_elim (λ f. row_within (closure m s) (get_or m.rows r []) f.1)
      (λ f. absurd (true≢false (sym inside ∙ f.0)))
      (outside_one s (closure m s) (rounds_hold m m.n s) (get_or m.rows r []) d one)

  module _ (zero : x d ≡ zero_symbol len) (sum : List ℕ)
      (sum_is : sum ≡ xor_sum len x (get_or m.rows r [])) where
    y : ℕ → List ℕ
    y = keeping d sum x

    at_other : (c : ℕ) → s c ≡ true → x c ≡ y c
    unfolding y
    at_other c e = sym (ap (λ b. cond b sum (x c))
        (ne_eqb d c (λ z. true≢false (sym e ∙ ap s (sym z) ∙ unknown))))

    at_own : y d ≡ sum
    unfolding y
    at_own = ap (λ b. cond b sum (x d)) (eq-eqb d d refl)

    -- with the sum in its place the row sums to zero
    closed : (j : ℕ) → total 0 bit_xor (λ c. byte j (y c)) (get_or m.rows r []) ≡ 0
    closed j = closes 0 bit_xor byte_laws s (λ c. byte j (x c)) (λ c. byte j (y c))
        (λ c e. ap (byte j) (at_other c e)) (get_or m.rows r []) d one
        (ap (byte j) zero ∙ byte_zero len j) (ap (byte j) (at_own ∙ sum_is)
        ∙ byte_sum len x (λ c. (is c).long) j (get_or m.rows r []))

    sum_long : length sum ≡ len
    sum_long = ap length sum_is ∙ length_sum len x (λ c. (is c).long) (get_or m.rows r [])

    forced_own : (z : ℕ → List ℕ) → IsAssignment len z → SumsToZeroWithin m len (closure m s) z
        → Agree s x z → y d ≡ z d
    forced_own z is_z rows agree = same_bytes (y d) (z d) (ap length at_own ∙ sum_long
        ∙ sym (is_z d).long) (λ j.
        one_left 0 bit_xor byte_laws s (λ c. byte j (y c)) (λ c. byte j (z c))
        (λ c e. ap (byte j) (sym (at_other c e) ∙ agree c e)) (get_or m.rows r []) d one
        (closed j ∙ sym (plane_zero len z (λ c. (is_z c).long) (get_or m.rows r [])
        (rows r [] lt whole) j)))

    -- the single column gets the sum of the others
    pub peeled_row : IsPeeled m len s x (adding d s) (keeping d sum x)
    unfolding y
    peeled_row = record {
      holds = λ c e. or_first (s c) (d == c) e;
      within = λ c e. ⊎_elim (rounds_hold m m.n s c) (λ f. ap (closure m s) (sym (eqb-true d c f))
          ∙ inside) (or_cases (s c) (d == c) e);
      keeps = at_other;
      forced = λ z is_z rows agree c e. ⊎_elim (λ f. sym (at_other c f) ∙ agree c f)
          (λ f. subst (λ b. y b ≡ z b) (eqb-true d c f) (forced_own z is_z rows agree))
          (or_cases (s c) (d == c) e);
    }
