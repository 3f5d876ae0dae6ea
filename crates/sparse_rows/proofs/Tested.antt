-- The shape of a matrix as a test, which computes where the rows are written out.
use Rattle.std.proofs.Common.{◌≡◌, ℕ, zero, suc, ◌+◌, ◌<◌, Bool, true, ◌&&◌, List, [], ◌∷◌, length}
use Rattle.std.proofs.Common.{get_or, ltb, leb, eqb, ltb-true, leb-true, eqb-true, subst, arith}
use Rattle.std.specs.List.{list_any, list_all}
use Rattle.std.specs.List.Sorted.{IsStrictlyIncreasing}
use Rattle.std.proofs.lemmas.Bool.{and_parts}
use Rattle.std.proofs.lemmas.List.Sums.{AllPass-from_list_all}
use Rattle.std.proofs.lemmas.List.Folds.{Any-from_list_any}
use Rattle.std.proofs.lemmas.Map.Views.{Contains-from_any}
use Rattle.sparse_rows.specs.Matrix.{Matrix, IsRow, HasShape}
use Rattle.sparse_rows.proofs.Rising.{rising_cons}

-- each column is below those after it
abbrev pub rises : List ℕ → Bool
rises [] = true
rises (x ∷ row) = list_all (ltb x) row && rises row

rises_true : (row : List ℕ) → rises row ≡ true → IsStrictlyIncreasing row
rises_true [] h = λ k lt. absurd (omega arith)
rises_true (x ∷ row) h =
    let parts = and_parts (list_all (ltb x) row) (rises row) h in
    rising_cons x row (λ some. ltb-true x (get_or row 0 0) (AllPass-from_list_all (ltb x) row
    parts.0 0 0 some)) (rises_true row parts.1)

-- the row's columns rise to the last, and some are source symbols
abbrev pub is_row : ℕ → ℕ → List ℕ → Bool
is_row k last row = (rises row && list_any (eqb last) row) && (list_all (λ c. leb c last) row &&
    list_any (λ c. ltb c k) row)

is_row_true : (k last : ℕ) (row : List ℕ) → is_row k last row ≡ true → IsRow k last row
is_row_true k last row h =
    let halves = and_parts (rises row && list_any (eqb last) row) (list_all (λ c. leb c last) row &&
    list_any (λ c. ltb c k) row) h in
    let front = and_parts (rises row) (list_any (eqb last) row) halves.0 in
    let back = and_parts (list_all (λ c. leb c last) row) (list_any (λ c. ltb c k) row) halves.1 in
    let some = Any-from_list_any (λ c. ltb c k) row back.1 in
    record {
      rising = rises_true row front.0;
      holds = Contains-from_any eqb-true last row front.1;
      within = λ i d lt. leb-true (get_or row i d) last (AllPass-from_list_all (λ c. leb c last) row
          back.0 i d lt);
      source = (some.0, some.1, some.2, some.3, ltb-true some.1 k some.4);
    }

-- each row is one, and the last columns follow one another
abbrev pub are_rows : ℕ → ℕ → List (List ℕ) → Bool
are_rows k last [] = true
are_rows k last (row ∷ rows) = is_row k last row && are_rows k (suc last) rows

are_rows_true : (k last : ℕ) (rows : List (List ℕ)) → are_rows k last rows ≡ true → (i : ℕ)
    → i < length rows → IsRow k (last + i) (get_or rows i [])
are_rows_true k last [] h i lt = absurd (omega arith)
are_rows_true k last (row ∷ rows) h zero lt =
    let parts = and_parts (is_row k last row) (are_rows k (suc last) rows) h in
    let same : last ≡ last + 0 = omega arith in
    subst (λ p. IsRow k p row) same (is_row_true k last row parts.0)
are_rows_true k last (row ∷ rows) h (suc i) lt =
    let parts = and_parts (is_row k last row) (are_rows k (suc last) rows) h in
    let same : suc last + i ≡ last + suc i = omega arith in
    subst (λ p. IsRow k p (get_or rows i [])) same (are_rows_true k (suc last) rows parts.1 i
    (omega arith))

-- whether the matrix has the shape
abbrev pub has_shape : Matrix → Bool
has_shape m = eqb (m.k + length m.rows) m.n && are_rows m.k m.k m.rows

pub has_shape_true : (m : Matrix) → has_shape m ≡ true → HasShape m
has_shape_true m h =
    let parts = and_parts (eqb (m.k + length m.rows) m.n) (are_rows m.k m.k m.rows) h in
    record {
      count = eqb-true (m.k + length m.rows) m.n parts.0;
      row = are_rows_true m.k m.k m.rows parts.1;
    }
