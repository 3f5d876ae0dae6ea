-- Rows with fewer than two source symbols, which gain some.
use Rattle.std.proofs.Common.{◌≡◌, ◌≢◌, ℕ, ◌<◌, ◌≤◌, ⊎_elim, Bool, true, false, ◌==◌, ◌&&◌, eq-eqb}
use Rattle.std.proofs.Common.{ne_eqb, nat_lt, nat_le, List, [], ◌∷◌, filter, length, Some, None}
use Rattle.std.proofs.Common.{refl, sym, subst, arith, zero-le, eq-or-lt_of_le, length-append}
use Rattle.std.proofs.lemmas.Bool.{eqb-true, le-leb, lt-leb}
use Rattle.std.proofs.lemmas.List.{get_or-set_same}
use Rattle.std.proofs.lemmas.List.Sums.{count_by-le-length}
use Rattle.park_miller.specs.LimitedDraws.{LimitedDraws}
use Rattle.sparse_rows.specs.Matrix.{Matrix, row_of, with_column, with_entry}
use Rattle.staircase.specs.Pick.{pick}
use Rattle.staircase.specs.LeftSide.{lacks, source_degree, first_extra, second_extra, drawn_matrix}
use Rattle.staircase.proofs.FirstDraw.{IsOneDraw, IsSearching-none, search_ends, search_finds}
use Rattle.staircase.proofs.Filled.{row_of-with_other}

-- a row with a new column is not empty
with_column_some : (c : ℕ) (row : List ℕ) → 0 < length (with_column c row)
with_column_some c row = omega
    (arith, length-append (filter (λ x. nat_lt x c) row) (c ∷ filter (λ x. nat_lt c x) row))

pub gains_some : (m : Matrix) (r c : ℕ) → r < length m.rows
    → 0 < length (row_of (with_entry m r c) r)
gains_some m r c inside = subst (λ (row : List ℕ). 0 < length row)
    (sym (get_or-set_same m.rows r (with_column c (row_of m r)) [] inside))
    (with_column_some c (row_of m r))

-- the rows that are not empty stay so
pub keeps_some : (m : Matrix) (r c : ℕ) → r < length m.rows → (i : ℕ) → 0 < length (row_of m i)
    → 0 < length (row_of (with_entry m r c) i)
keeps_some m r c inside i some = by_case (i == r) refl
  where
    by_case : (b : Bool) → (i == r) ≡ b → 0 < length (row_of (with_entry m r c) i)
    by_case true e = let same : i ≡ r = eqb-true i r e in rw same (gains_some m r c inside)
    by_case false e = rw (row_of-with_other m r c i (λ same. absurd (cc (e, eq-eqb i r same)))) some

-- a row with some source symbol is not empty
pub degree_some : (m : Matrix) (r degree : ℕ) → degree ≡ source_degree m r → degree ≢ 0
    → 0 < length (row_of m r)
degree_some m r degree is other =
    ⊎_elim (λ (e : 0 ≡ length (row_of m r)). absurd
    (other (omega (arith, is, e, count_by-le-length (λ c. nat_lt c m.k) (row_of m r)))))
    (λ (lt : 0 < length (row_of m r)). lt) (eq-or-lt_of_le zero-le)

module _ (m : Matrix) (g : LimitedDraws) (r k degree : ℕ) (size : m.k ≡ k)
    (degree_is : degree ≡ source_degree m r) where
  pub first_stays : degree ≢ 0 → first_extra r (drawn_matrix m g) ≡ Some (drawn_matrix m g)
  unfolding first_extra
  first_stays other = rw (← degree_is, ne_eqb degree 0 other) refl

  module _ (none : degree ≡ 0) where
    pub first_over : g.used ≡ g.limit → first_extra r (drawn_matrix m g) ≡ None
    unfolding first_extra
    first_over over = rw (
      ← degree_is,
      eq-eqb degree 0 none,
      search_ends m.k (λ _. true) g g (IsSearching-none m.k (λ _. true) g) over,
    ) refl

    pub first_gains : (c : ℕ) (g' : LimitedDraws) → IsOneDraw k c g g'
        → first_extra r (drawn_matrix m g) ≡ Some (drawn_matrix (with_entry m r c) g')
    unfolding first_extra
    first_gains c g' one = rw (
      ← degree_is,
      eq-eqb degree 0 none,
      size,
      search_finds k (λ _. true) g g (IsSearching-none k (λ _. true) g) c g' one refl,
    ) refl

  -- whether the row gains a second one
  test : (one : Bool) → (degree == 1) ≡ one → (more : Bool) → nat_le 2 k ≡ more
      → ((source_degree m r == 1) && nat_le 2 m.k) ≡ (one && more)
  test one e more f = rw (← degree_is, e, size, f) refl

  pub second_stays : degree ≢ 1 → second_extra r (drawn_matrix m g) ≡ Some (drawn_matrix m g)
  unfolding second_extra
  second_stays other = rw (test false (ne_eqb degree 1 other) (nat_le 2 k) refl) refl

  pub second_stays_alone : degree ≡ 1 → k < 2 → second_extra r (drawn_matrix m g)
      ≡ Some (drawn_matrix m g)
  unfolding second_extra
  second_stays_alone one few = rw (test true (eq-eqb degree 1 one) false (lt-leb 2 k few)) refl

  module _ (one : degree ≡ 1) (more : 2 ≤ k) where
    pub second_over : pick k (λ column. lacks m column r) g ≡ None
        → second_extra r (drawn_matrix m g) ≡ None
    unfolding second_extra
    second_over over = rw (test true (eq-eqb degree 1 one) true (le-leb 2 k more), size, over) refl

    pub second_gains : (c : ℕ) (g' : LimitedDraws) → pick k (λ column. lacks m column r) g
        ≡ Some (record { value = c; draws = g' }) → second_extra r (drawn_matrix m g)
        ≡ Some (drawn_matrix (with_entry m r c) g')
    unfolding second_extra
    second_gains c g' picked = rw (
      test true (eq-eqb degree 1 one) true (le-leb 2 k more),
      size,
      picked,
    ) refl
