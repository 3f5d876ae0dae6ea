-- Rows that gain their extra columns, one after the other.
use Rattle.std.proofs.Common.{◌≡◌, ℕ, ◌+◌, ◌-◌, ◌<◌, ⊎_elim, suc, length, Some, None, [], List}
use Rattle.std.proofs.Common.{refl, ap, ◌∙◌, arith}
use Rattle.std.specs.Option.{option_and_then}
use Rattle.std.proofs.lemmas.List.Elements.{All-from_get_or}
use Rattle.park_miller.specs.LimitedDraws.{LimitedDraws}
use Rattle.sparse_rows.specs.Matrix.{Matrix, row_of}
use Rattle.sparse_rows.proofs.Shape.{last_or_before}
use Rattle.staircase.specs.LeftSide.{DrawnMatrix, in_order, first_extra, second_extra, extras}
use Rattle.staircase.specs.LeftSide.{drawn_matrix}
use Rattle.staircase.specs.Left.{HasDrawn, IsFilled, IsLeftSide}
use Rattle.staircase.proofs.FirstDraw.{HasDrawn-none, HasDrawn-trans}
use Rattle.staircase.proofs.InOrder.{in_order-more}

-- so many rows have their extra columns
pub record AreExtended (k n : ℕ) (start : DrawnMatrix) (rows : ℕ) (m : Matrix)
    (g : LimitedDraws) : Type 0 where
  pub extended : in_order rows extras start ≡ Some (drawn_matrix m g)
  pub filled : IsFilled k n k m
  pub some : (i : ℕ) → i < rows → 0 < length (row_of m i)
  pub drawn : HasDrawn start.draws g

pub AreExtended-none : (k n : ℕ) (m : Matrix) (g : LimitedDraws) → IsFilled k n k m
    → AreExtended k n (drawn_matrix m g) 0 m g
AreExtended-none k n m g filled =
    record {
      extended = refl;
      filled = filled;
      some = λ i lt. absurd (omega arith);
      drawn = HasDrawn-none g;
    }

-- the extra columns of a row, the first and the second one
pub extras_over_first : (r : ℕ) (m : Matrix) (g : LimitedDraws) → first_extra r (drawn_matrix m g)
    ≡ None → extras r (drawn_matrix m g) ≡ None
extras_over_first r m g first = ap (option_and_then (second_extra r)) first

module _ (r : ℕ) (m : Matrix) (g : LimitedDraws) (m' : Matrix) (g' : LimitedDraws)
    (first : first_extra r (drawn_matrix m g) ≡ Some (drawn_matrix m' g')) where
  pub extras_over_second : second_extra r (drawn_matrix m' g') ≡ None
      → extras r (drawn_matrix m g) ≡ None
  extras_over_second second = ap (option_and_then (second_extra r)) first ∙ second

  pub extras_are : (m'' : Matrix) (g'' : LimitedDraws) → second_extra r (drawn_matrix m' g')
      ≡ Some (drawn_matrix m'' g'') → extras r (drawn_matrix m g) ≡ Some (drawn_matrix m'' g'')
  extras_are m'' g'' second = ap (option_and_then (second_extra r)) first ∙ second

module _ (k n : ℕ) (start : DrawnMatrix) (r : ℕ) (m : Matrix) (g : LimitedDraws)
    (so_far : AreExtended k n start r m g) (m' : Matrix) (g' : LimitedDraws) (m'' : Matrix)
    (g'' : LimitedDraws) where
  pub AreExtended-more : first_extra r (drawn_matrix m g) ≡ Some (drawn_matrix m' g')
      → 0 < length (row_of m' r) → ((i : ℕ) → 0 < length (row_of m i) → 0 < length (row_of m' i))
      → HasDrawn g g'
      → second_extra r (drawn_matrix m' g') ≡ Some (drawn_matrix m'' g'') → IsFilled k n k m''
      → ((i : ℕ) → 0 < length (row_of m' i) → 0 < length (row_of m'' i)) → HasDrawn g' g''
      → AreExtended k n start (r + 1) m'' g''
  AreExtended-more first some keeps drawn second filled keeps' drawn' = record {
    extended = in_order-more extras start r (drawn_matrix m g) _ so_far.extended
        (extras_are r m g m' g' first m'' g'' second);
    filled = filled;
    some = λ i lt. keeps' i (⊎_elim (λ (e : i ≡ r). rw e some)
        (λ (l : i < r). keeps i (so_far.some i l))
        (last_or_before i r (let h : i < suc r = omega arith in h)));
    drawn = HasDrawn-trans start.draws g g'' so_far.drawn (HasDrawn-trans g g' g'' drawn drawn');
  }

-- all rows have theirs
pub left_side_is : (k n rows : ℕ) (start : DrawnMatrix) (m : Matrix) (g : LimitedDraws)
    → AreExtended k n start rows m g → rows ≡ n - k → IsLeftSide k n m
left_side_is k n rows start m g all count = record {
  filled = all.filled;
  some = All-from_get_or (λ (row : List ℕ). 0 < length row) m.rows []
      (λ i lt. all.some i (omega (arith, all.filled.count)));
}
