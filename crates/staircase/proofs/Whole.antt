-- The left side from its columns and its extra columns.
use Rattle.std.proofs.Common.{◌≡◌, ℕ, zero, suc, ◌-◌, ◌*◌, ◌%◌, ◌≤◌, min, [], map, replicate}
use Rattle.std.proofs.Common.{Option, Some, None, refl, ap, ◌∙◌, arith}
use Rattle.std.specs.List.{range_with_len}
use Rattle.std.specs.Option.{option_map, option_and_then}
use Rattle.park_miller.specs.LimitedDraws.{LimitedDraws}
use Rattle.sparse_rows.specs.Matrix.{Matrix}
use Rattle.staircase.specs.LeftSide.{DrawnMatrix, Filling, in_order, column, columns, extras}
use Rattle.staircase.specs.LeftSide.{left_side, drawn_matrix}
use Rattle.staircase.specs.Left.{IsLeftSide}
use Rattle.staircase.specs.Choices.{RowList, filling}
use Rattle.staircase.proofs.Filled.{filled_none}

-- columns that take no turn
no_turns : (k : ℕ) (f : Filling) → in_order k (column 0) f ≡ Some f
no_turns zero f = refl
no_turns (suc c) f = ap (option_and_then (column 0 c)) (no_turns c f)

-- no rows, and no draw
pub left_side_none : (k n n1 : ℕ) (g : LimitedDraws) → n - k ≡ 0
    → left_side k n n1 g ≡ Some (drawn_matrix (record { k = k; n = n; rows = replicate (n - k) [] })
    g)
unfolding left_side
left_side_none k n n1 g none = let least : min n1 0 ≡ 0 = omega arith in
    rw (none, least, no_turns) refl

pub is_left_side_none : (k n : ℕ) → k ≤ n → n - k ≡ 0
    → IsLeftSide k n (record { k = k; n = n; rows = replicate (n - k) [] })
is_left_side_none k n within none = record {
  filled = let f = filled_none k n within in
      record {
        source = refl;
        encoding = refl;
        count = f.count;
        rows = rw none (λ i d lt. absurd (omega arith));
      };
  some = rw none (λ i d lt. absurd (omega arith));
}

module _ (k n n1 : ℕ) (g : LimitedDraws) (rows : Matrix) (choices : RowList) (turns : ℕ)
    (rows_are : rows ≡ record { k = k; n = n; rows = replicate (n - k) [] }) (choices_are : choices
    ≡ record { rows = n - k; list = map (λ h. h % (n - k)) (range_with_len 0 (n1 * k)) })
    (turns_are : turns ≡ min n1 (n - k)) where
  columns_are : (filled : Option Filling) → in_order k (column turns) (filling rows choices g)
      ≡ filled → columns k n n1 g ≡ filled
  columns_are filled e = rw (rows_are, choices_are, turns_are) at e

  pub left_side_over : in_order k (column turns) (filling rows choices g) ≡ None
      → left_side k n n1 g ≡ None
  unfolding left_side
  left_side_over over = ap (λ f. option_and_then (in_order (n - k) extras)
      (option_map (λ (f : Filling). let d : DrawnMatrix = record {
        matrix = f.matrix;
        draws = f.draws;
      } in d) f)) (columns_are None over)

  pub left_side_is : (m : Matrix) (choices' : RowList) (g' : LimitedDraws)
      (result : Option DrawnMatrix) → in_order k (column turns) (filling rows choices g)
      ≡ Some (filling m choices' g') → in_order (n - k) extras (drawn_matrix m g') ≡ result
      → left_side k n n1 g ≡ result
  unfolding left_side
  left_side_is m choices' g' result filled extended =
      ap (λ f. option_and_then (in_order (n - k) extras)
      (option_map (λ (f : Filling). let d : DrawnMatrix = record {
        matrix = f.matrix;
        draws = f.draws;
      } in d) f)) (columns_are (Some (filling m choices' g')) filled) ∙ extended
