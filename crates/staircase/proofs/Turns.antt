-- A turn of a column, from the draw that it picks.
use Rattle.std.proofs.Common.{◌≡◌, ℕ, ◌-◌, ◌<◌, ◌≤◌, List, length, get_or, Some, None, refl}
use Rattle.park_miller.specs.LimitedDraws.{LimitedDraws}
use Rattle.sparse_rows.specs.Matrix.{Matrix, has_entry, with_entry}
use Rattle.staircase.specs.Pick.{pick}
use Rattle.staircase.specs.LeftSide.{Filling, lacks, without, turn, from_rest, from_rows}
use Rattle.staircase.specs.Choices.{blocked_count}
use Rattle.staircase.proofs.Blocked.{some_free, none_free}

module _ (m : Matrix) (rest : List ℕ) (g : LimitedDraws) (c : ℕ) where
  abbrev before : Filling
  before = record { matrix = m; rest = rest; draws = g }

  module _ (free : blocked_count m c rest < length rest) where
    pub turn_from_rest : (i : ℕ) (g' : LimitedDraws)
        → pick (length rest) (λ place. lacks m c (get_or rest place 0)) g
        ≡ Some (record { value = i; draws = g' })
        → turn c before ≡ Some (record {
          matrix = with_entry m (get_or rest i 0) c;
          rest = without rest i;
          draws = g';
        })
    unfolding turn from_rest
    turn_from_rest i g' picked = rw (some_free (λ r. has_entry m r c) rest free, picked) refl

    pub turn_from_rest_over : pick (length rest) (λ place. lacks m c (get_or rest place 0)) g ≡ None
        → turn c before ≡ None
    unfolding turn from_rest
    turn_from_rest_over over = rw (some_free (λ r. has_entry m r c) rest free, over) refl

  module _ (full : length rest ≤ blocked_count m c rest) (count : ℕ) (rows : count ≡ m.n - m.k)
    where
      pub turn_from_rows : (r : ℕ) (g' : LimitedDraws)
          → pick count (lacks m c) g ≡ Some (record { value = r; draws = g' })
          → turn c before ≡ Some (record { matrix = with_entry m r c; rest = rest; draws = g' })
      unfolding turn from_rows
      turn_from_rows r g' picked = rw (none_free (λ r. has_entry m r c) rest full, ← rows, picked)
          refl

      pub turn_from_rows_over : pick count (lacks m c) g ≡ None → turn c before ≡ None
      unfolding turn from_rows
      turn_from_rows_over over = rw (none_free (λ r. has_entry m r c) rest full, ← rows, over) refl
