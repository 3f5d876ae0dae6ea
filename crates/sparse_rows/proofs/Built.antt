-- A matrix that is being built, with no column yet and with one column more.
use Rattle.std.proofs.Common.{Result, Ok, Err, OnOk, OnErr, Bool, ◌≡◌, ℕ, zero, suc, ◌-◌, ◌<◌, ◌≤◌}
use Rattle.std.proofs.Common.{List, [], ◌∷◌, length, get_or, set, zero-le, replicate, refl, sym, ap}
use Rattle.std.proofs.Common.{◌∙◌, subst, arith, length-set}
use Rattle.std.proofs.lemmas.List.{length-replicate, length-map, map-set, get_or-map}
use Rattle.std.proofs.lemmas.List.Elements.{All-replicate, All-nil, All-set}
use Rattle.fec_base.specs.declared.outside.NoMemory.{NoMemory}
use Rattle.smallvec.specs.SmallVec.{SmallVec}
use Rattle.sparse_rows.specs.Matrix.{Matrix, row_of, with_column, with_entry}
use Rattle.sparse_rows.specs.Rows.{lists_of, matrix_of_rows}
use Rattle.sparse_rows.specs.Building.{IsRising, IsBuilt}
use Rattle.sparse_rows.proofs.Rising.{with_column_rises}
use Rattle.sparse_rows.proofs.Flat.{rising_above}

-- a row with no column, and some capacity
abbrev pub empty_row : ℕ → SmallVec ℕ
empty_row capacity = record { items = []; capacity = capacity }

pub lists_of_empty : (count capacity : ℕ) → lists_of (replicate count (empty_row capacity))
    ≡ replicate count []
lists_of_empty zero capacity = refl
lists_of_empty (suc count) capacity = ap (λ rows. [] ∷ rows) (lists_of_empty count capacity)

rising_nil : (n : ℕ) → IsRising n []
rising_nil n = record { rising = λ k lt. absurd (omega arith); below = All-nil (λ x. x < n) }

-- rows without a column
pub built_empty : (k n : ℕ) (rows : List (SmallVec ℕ)) → rows ≡ replicate (n - k) (empty_row 8)
    → 1 ≤ k → k ≤ n → n ≤ 65536 → IsBuilt (matrix_of_rows k n rows)
built_empty k n rows is some within most = record {
  some = some;
  within = within;
  most = most;
  count = rw (is, lists_of_empty (n - k) 8)
      (omega (arith, length-replicate {A = List ℕ} (n - k) []));
  rows = rw (is, lists_of_empty (n - k) 8) (All-replicate (IsRising n) (n - k) [] (rising_nil n));
}

pub empty_is : (k n : ℕ) (rows : List (SmallVec ℕ)) → rows ≡ replicate (n - k) (empty_row 8)
    → matrix_of_rows k n rows ≡ record { k = k; n = n; rows = replicate (n - k) [] }
empty_is k n rows is = ap (λ (lists : List (List ℕ)). record { k = k; n = n; rows = lists })
    (ap lists_of is ∙ lists_of_empty (n - k) 8)

module _ (k n : ℕ) (rows : List (SmallVec ℕ)) (built : IsBuilt (matrix_of_rows k n rows))
    (value : Matrix) (is : matrix_of_rows k n rows ≡ value) (r : ℕ) (inside : r < value.n - value.k)
  where
    pub row_inside : r < length rows
    row_inside = omega (
      arith,
      built.count,
      length-map rows (λ (row : SmallVec ℕ). row.items),
      ap (λ m. m.n - m.k) is,
    )

    module _ (row : SmallVec ℕ) (found : row ≡ get_or rows r row) where
      pub row_is : row_of (matrix_of_rows k n rows) r ≡ row.items
      row_is = get_or-map (λ (one : SmallVec ℕ). one.items) rows r row [] row_inside
          ∙ ap (λ (one : SmallVec ℕ). one.items) (sym found)

      pub row_rises : IsRising n row.items
      row_rises = subst (IsRising n) row_is (built.rows r [] (rw length-map row_inside))

      -- the row as the value tells it
      pub value_row : row.items ≡ row_of value r
      value_row = sym row_is ∙ ap (λ m. row_of m r) is

      pub value_rises : IsRising value.n row.items
      value_rises = subst (λ (m : Matrix). IsRising m.n row.items) is row_rises

      module _ (c : ℕ) (fits : c < value.n) (new : SmallVec ℕ) (result : Result Bool NoMemory)
          (ok : OnOk result (new.items ≡ with_column c row.items)) (err : OnErr result (new ≡ row))
        where
          new_rises : IsRising n new.items
          new_rises = by_result result ok err
            where
              by_result : (res : Result Bool NoMemory)
                  → OnOk res (new.items ≡ with_column c row.items)
                  → OnErr res (new ≡ row) → IsRising n new.items
              by_result (Ok added) e f = subst (IsRising n) (sym e)
                  (with_column_rises n c row.items (rw (ap (λ m. m.n) is) fits) row_rises)
              by_result (Err refused) e f = subst (λ (one : SmallVec ℕ). IsRising n one.items)
                  (sym f)
                  row_rises

          pub built_with : IsBuilt (matrix_of_rows k n (set rows r new))
          built_with = record {
            some = built.some;
            within = built.within;
            most = built.most;
            count = rw (map-set (λ (one : SmallVec ℕ). one.items) rows r new, length-set)
                built.count;
            rows = rw (map-set (λ (one : SmallVec ℕ). one.items) rows r new)
                (All-set (IsRising n) (lists_of rows) r new.items new_rises built.rows);
          }

          pub value_with : OnOk result (matrix_of_rows k n (set rows r new) ≡ with_entry value r c)
          value_with = by_result result ok
            where
              by_result : (res : Result Bool NoMemory)
                  → OnOk res (new.items ≡ with_column c row.items)
                  → OnOk res (matrix_of_rows k n (set rows r new) ≡ with_entry value r c)
              by_result (Ok added) e =
                  ap (λ (lists : List (List ℕ)). record { k = k; n = n; rows = lists })
                  (map-set (λ (one : SmallVec ℕ). one.items) rows r new ∙ ap (set (lists_of rows) r)
                  (e ∙ ap (with_column c) (sym row_is)))
                  ∙ ap (λ m. with_entry m r c) is
              by_result (Err refused) e = tt

-- a row has at most n columns
pub short_row : (n : ℕ) (row : List ℕ) → IsRising n row → length row ≤ n
short_row n [] h = zero-le
short_row n (x ∷ row) h =
    let last : length row ≤ get_or (x ∷ row) (length row) 0 = rising_above (x ∷ row) h.rising
    (length row) (omega arith) in
    let low : get_or (x ∷ row) (length row) 0 < n = h.below (length row) 0 (omega arith) in
    omega arith
