-- Columns that are filled, turn by turn and column by column.
use Rattle.std.proofs.Common.{◌≡◌, ℕ, ◌+◌, ◌-◌, ◌<◌, ◌≤◌, false, ◌==◌, length, count_by, Some, refl}
use Rattle.std.proofs.Common.{sym, ◌∙◌, arith}
use Rattle.std.proofs.lemmas.List.Sums.{count_by-le-length}
use Rattle.park_miller.specs.LimitedDraws.{LimitedDraws}
use Rattle.sparse_rows.specs.Matrix.{Matrix, has_entry, with_entry}
use Rattle.staircase.specs.LeftSide.{Filling, in_order, turn, column}
use Rattle.staircase.specs.Left.{HasDrawn, IsFilled}
use Rattle.staircase.specs.Choices.{RowList, filling, blocked_count}
use Rattle.staircase.proofs.FirstDraw.{HasDrawn-none, HasDrawn-trans}
use Rattle.staircase.proofs.Filled.{filled_below, filled_with, row_inside}
use Rattle.staircase.proofs.Blocked.{none_blocked, blocked_with}
use Rattle.staircase.proofs.InOrder.{in_order-more}

-- so many turns of a column are taken
pub record IsTurned (k n c : ℕ) (start : Filling) (turns : ℕ) (m : Matrix) (choices : RowList)
    (blocked : ℕ) (g : LimitedDraws) : Type 0 where
  pub turned : in_order turns (λ _. turn c) start ≡ Some (filling m choices g)
  pub filled : IsFilled k n (c + 1) m
  pub rows : choices.rows ≡ n - k
  pub counted : blocked ≡ blocked_count m c choices.list
  pub drawn : HasDrawn start.draws g

pub IsTurned-none : (k n c : ℕ) (m : Matrix) (choices : RowList) (g : LimitedDraws)
    → IsFilled k n c m → choices.rows ≡ n - k → IsTurned k n c (filling m choices g) 0 m choices 0 g
IsTurned-none k n c m choices g filled rows = record {
  turned = refl;
  filled = filled_below k n c (c + 1) m (omega arith) filled;
  rows = rows;
  counted = sym (none_blocked k n c m choices.list filled);
  drawn = HasDrawn-none g;
}

module _ (k n c : ℕ) (start : Filling) (turns : ℕ) (m : Matrix) (choices : RowList) (blocked : ℕ)
    (g : LimitedDraws) (so_far : IsTurned k n c start turns m choices blocked g)
    (r : ℕ) (m' : Matrix) (choices' : RowList) (count : ℕ) (g' : LimitedDraws)
    (turn_is : turn c (filling m choices g) ≡ Some (filling (with_entry m r c) choices' g'))
    (inside : r < n - k) (free : has_entry m r c ≡ false)
    (still : blocked_count m c choices'.list ≡ blocked) (kept : choices'.rows ≡ choices.rows)
    (drawn : HasDrawn g g')
    (inserted : m' ≡ with_entry m r c) (count_is : count ≡ count_by (λ row. row == r) choices'.list)
  where
    more_blocked : blocked + count ≡ blocked_count m' c choices'.list
    more_blocked = rw (
      inserted,
      blocked_with m r c choices'.list
          (row_inside k n (c + 1) m so_far.filled r c inside) free,
      still,
      count_is,
    ) refl

    pub blocked_bound : blocked + count ≤ length choices'.list
    blocked_bound = omega (
      arith,
      more_blocked,
      count_by-le-length (λ row. has_entry m' row c) choices'.list,
    )

    pub IsTurned-more : IsTurned k n c start (turns + 1) m' choices' (blocked + count) g'
    IsTurned-more = record {
      turned = rw inserted (in_order-more (λ _. turn c) start turns (filling m choices g) _
          so_far.turned turn_is);
      filled = rw inserted (filled_with k n (c + 1) m so_far.filled r c inside (omega arith));
      rows = kept ∙ so_far.rows;
      counted = more_blocked;
      drawn = HasDrawn-trans start.draws g g' so_far.drawn drawn;
    }

-- so many columns are filled
pub record AreFilled (k n turns : ℕ) (start : Filling) (columns : ℕ) (m : Matrix)
    (choices : RowList) (g : LimitedDraws) : Type 0 where
  pub taken : in_order columns (column turns) start ≡ Some (filling m choices g)
  pub filled : IsFilled k n columns m
  pub rows : choices.rows ≡ n - k
  pub drawn : HasDrawn start.draws g

pub AreFilled-none : (k n turns : ℕ) (m : Matrix) (choices : RowList) (g : LimitedDraws)
    → IsFilled k n 0 m → choices.rows ≡ n - k → AreFilled k n turns (filling m choices g) 0 m
    choices g
AreFilled-none k n turns m choices g filled rows =
    record { taken = refl; filled = filled; rows = rows; drawn = HasDrawn-none g }

pub AreFilled-more : (k n turns : ℕ) (start : Filling) (columns : ℕ) (m : Matrix)
    (choices : RowList) (g : LimitedDraws) → AreFilled k n turns start columns m choices g
    → (m' : Matrix) (choices' : RowList) (g' : LimitedDraws)
    → column turns columns (filling m choices g) ≡ Some (filling m' choices' g')
    → IsFilled m.k m.n (columns + 1) m' → choices'.rows ≡ choices.rows → HasDrawn g g'
    → AreFilled k n turns start (columns + 1) m' choices' g'
AreFilled-more k n turns start columns m choices g so_far m' choices' g' taken filled rows drawn =
    record {
      taken = in_order-more (column turns) start columns (filling m choices g) _ so_far.taken taken;
      filled = rw (so_far.filled.source, so_far.filled.encoding) at filled;
      rows = rows ∙ so_far.rows;
      drawn = HasDrawn-trans start.draws g g' so_far.drawn drawn;
    }
