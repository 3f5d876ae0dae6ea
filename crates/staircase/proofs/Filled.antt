-- A matrix whose rows are being filled, and one entry more.
use Rattle.std.proofs.Common.{◌≡◌, ◌≢◌, ℕ, ◌-◌, ◌<◌, ◌≤◌, ⊎_elim, Bool, true, false, ◌==◌, eq-eqb}
use Rattle.std.proofs.Common.{ne_eqb, ◌||◌, nat_lt, List, [], ◌∷◌, filter, length, get_or}
use Rattle.std.proofs.Common.{replicate, All, refl, ap, ◌∙◌, arith, length-set}
use Rattle.std.specs.List.{list_any}
use Rattle.std.proofs.lemmas.Bool.{cases_lt}
use Rattle.std.proofs.lemmas.List.{get_or-set_same, get_or-set_other, get_or_past, length-replicate}
use Rattle.std.proofs.lemmas.List.Elements.{All-nil, All-get_or, All-set, All-weaker, All-replicate}
use Rattle.std.proofs.lemmas.List.Folds.{list_any-append, list_any_none}
use Rattle.sparse_rows.specs.Matrix.{Matrix, row_of, is_in, has_entry, with_column, with_entry}
use Rattle.sparse_rows.specs.Building.{IsRising}
use Rattle.sparse_rows.proofs.Rising.{with_column_rises}
use Rattle.staircase.specs.Left.{IsFilled}

-- rows without a column
pub filled_none : (k n : ℕ) → k ≤ n
    → IsFilled k n 0 (record { k = k; n = n; rows = replicate (n - k) [] })
filled_none k n within = record {
  source = refl;
  encoding = refl;
  count = omega (arith, length-replicate {A = List ℕ} (n - k) []);
  rows = All-replicate (IsRising 0) (n - k) []
      (record { rising = λ i lt. absurd (omega arith); below = All-nil (λ x. x < 0) });
}

-- a higher bound
pub filled_below : (k n low high : ℕ) (m : Matrix) → low ≤ high → IsFilled k n low m
    → IsFilled k n high m
filled_below k n low high m le h = record {
  source = h.source;
  encoding = h.encoding;
  count = h.count;
  rows = All-weaker (IsRising low) (IsRising high)
      (λ row r. record {
        rising = r.rising;
        below = All-weaker (λ x. x < low) (λ x. x < high) (λ x lt. omega arith) row r.below;
      }) m.rows
      h.rows;
}

module _ (k n bound : ℕ) (m : Matrix) (filled : IsFilled k n bound m) (r c : ℕ) (inside : r < n - k)
  where
    pub row_inside : r < length m.rows
    row_inside = omega (arith, filled.count)

    -- one entry more
    pub filled_with : c < bound → IsFilled k n bound (with_entry m r c)
    filled_with lt = record {
      source = filled.source;
      encoding = filled.encoding;
      count = rw length-set filled.count;
      rows = All-set (IsRising bound) m.rows r (with_column c (row_of m r))
          (with_column_rises bound c (row_of m r) lt (All-get_or (IsRising bound) m.rows r []
          row_inside filled.rows)) filled.rows;
    }

-- a column above all of a row's is not in it
pub lacks_above : (c : ℕ) (row : List ℕ) → All (λ x. x < c) row → is_in row c ≡ false
lacks_above c row below = list_any_none (λ x. x == c) row (λ i d lt. ne_eqb (get_or row i d) c
    (λ e. let h : get_or row i d < c = below i d lt in absurd (omega arith)))

-- no row has a column at the bound
pub lacks_bound : (k n c r : ℕ) (m : Matrix) → IsFilled k n c m → has_entry m r c ≡ false
lacks_bound k n c r m filled = ⊎_elim
    (λ (lt : r < length m.rows). lacks_above c (row_of m r) (All-get_or (IsRising c) m.rows r [] lt
    filled.rows).below)
    (λ (le : length m.rows ≤ r). ap (λ columns. is_in columns c) (get_or_past m.rows r [] le))
    (cases_lt r (length m.rows))

-- the row with the column has it
is_in-with : (c : ℕ) (row : List ℕ) → is_in (with_column c row) c ≡ true
is_in-with c row = list_any-append (λ x. x == c) low (c ∷ high)
    ∙ ap (λ b. list_any (λ x. x == c) low || (b || list_any (λ x. x == c) high)) (eq-eqb c c refl)
    ∙ or_true (list_any (λ x. x == c) low)
  where
    low : List ℕ
    low = filter (λ x. nat_lt x c) row

    high : List ℕ
    high = filter (λ x. nat_lt c x) row

    or_true : (b : Bool) → (b || true) ≡ true
    or_true true = refl
    or_true false = refl

-- the entry is there, and every other row stays
pub has_entry-with : (m : Matrix) (r c : ℕ) → r < length m.rows → has_entry (with_entry m r c) r c
    ≡ true
has_entry-with m r c lt = ap (λ columns. is_in columns c)
    (get_or-set_same m.rows r (with_column c (row_of m r)) [] lt) ∙ is_in-with c (row_of m r)

pub row_of-with_other : (m : Matrix) (r c i : ℕ) → i ≢ r → row_of (with_entry m r c) i ≡ row_of m i
row_of-with_other m r c i other = get_or-set_other m.rows r i (with_column c (row_of m r)) [] other
