-- The entries of a matrix, counted by rows and by columns.
use Rattle.std.proofs.Common.{◌≡◌, ℕ, zero, suc, ◌+◌, ◌<◌, ◌≤◌, ⊎_elim, Bool, true, false, ◌||◌}
use Rattle.std.proofs.Common.{◌==◌, cond, List, [], ◌∷◌, ◌++◌, All, length, get_or, count_by}
use Rattle.std.proofs.Common.{sum_by, refl, sym, ap, ap₂, ◌∙◌, subst, arith, take, le_refl}
use Rattle.std.proofs.Common.{eqb-true, eq-eqb, true≢false, length-append}
use Rattle.std.specs.List.{range_with_len}
use Rattle.std.specs.List.Sorted.{IsStrictlyIncreasing}
use Rattle.std.proofs.lemmas.Bool.{ne_eqb}
use Rattle.std.proofs.Math.Seq.{take-length}
use Rattle.std.proofs.lemmas.List.{take_more}
use Rattle.std.proofs.lemmas.List.Sums.{sum_by-cons, sum_by-append}
use Rattle.std.proofs.lemmas.List.Elements.{All-head, All-tail, All-from_get_or}
use Rattle.std.proofs.lemmas.List.Kept.{AllPairs-from_increasing}
use Rattle.sparse_rows.specs.Matrix.{Matrix, HasShape, is_in, has_entry}
use Rattle.sparse_rows.specs.Closure.{Set, adding}
use Rattle.sparse_rows.specs.Columns.{column_in, column_of, entries}
use Rattle.sparse_rows.proofs.Sets.{or_none, true_or_false}
use Rattle.sparse_rows.proofs.Shape.{rising_tail}
use Rattle.sparse_rows.proofs.Null.{members_rise, members_below, passes, in_at}
use Rattle.sparse_rows.proofs.Transposed.{column_next}

-- ---- what a column's rows are

-- they rise
pub column_rises : (m : Matrix) (c : ℕ) → IsStrictlyIncreasing (column_of m c)
column_rises m c = members_rise (length m.rows) (λ r. has_entry m r c)

-- they are rows of the matrix, and have the column
pub column_within : (m : Matrix) (c i : ℕ) → i < length (column_of m c)
    → get_or (column_of m c) i 0 < length m.rows
column_within m c i lt = members_below (length m.rows) (λ r. has_entry m r c) i 0 lt

pub column_has : (m : Matrix) (c i : ℕ) → i < length (column_of m c)
    → has_entry m (get_or (column_of m c) i 0) c ≡ true
column_has m c i lt = passes (λ r. has_entry m r c) (range_with_len 0 (length m.rows))
    (get_or (column_of m c) i 0) (in_at (column_of m c) i 0 lt)

-- ---- how many entries a set of columns has

-- no column of the row is the one
absent_count : (s : Set) (c : ℕ) (row : List ℕ) → is_in row c ≡ false
    → count_by (adding c s) row ≡ count_by s row
absent_count s c [] e = refl
absent_count s c (x ∷ row) e =
    rw (sum_by-cons (λ d. cond (adding c s d) 1 0) x row, sum_by-cons (λ d. cond (s d) 1 0) x row)
    (ap₂ ◌+◌ (ap (λ b. cond b 1 0) (ap (λ b. s x || b) (not_it x (or_left (x == c) (is_in row c) e))
    ∙ or_none (s x))) (absent_count s c row (or_right (x == c) (is_in row c) e)))
  where
    or_left : (a b : Bool) → (a || b) ≡ false → a ≡ false
    or_left true b f = f
    or_left false b f = refl

    or_right : (a b : Bool) → (a || b) ≡ false → b ≡ false
    or_right true b f = absurd (true≢false f)
    or_right false b f = f

    not_it : (x : ℕ) → (x == c) ≡ false → (c == x) ≡ false
    not_it x f = ne_eqb c x (λ z. true≢false (sym (eq-eqb x c (sym z)) ∙ f))

-- columns above the first of a rising row
pub above_absent : (x : ℕ) (row : List ℕ) → IsStrictlyIncreasing (x ∷ row) → is_in row x ≡ false
above_absent x row rising = past row (λ i d lt. AllPairs-from_increasing (x ∷ row) rising 0 (suc i)
    d (omega arith) (omega (arith, lt)))
  where
    past : (ys : List ℕ) → All (λ y. x < y) ys → is_in ys x ≡ false
    past [] h = refl
    past (y ∷ ys) h = rw (ne_eqb y x (λ e. let lt : x < y = All-head (λ z. x < z) y ys h in
        absurd (omega (arith, e)))) (past ys (All-tail (λ z. x < z) y ys h))

-- a row has one entry more where it has the column
pub row_count : (s : Set) (c : ℕ) (row : List ℕ) → IsStrictlyIncreasing row → s c ≡ false
    → count_by (adding c s) row ≡ count_by s row + cond (is_in row c) 1 0
row_count s c [] rising new = refl
row_count s c (x ∷ row) rising new = ⊎_elim
    (λ e. let z : x ≡ c = eqb-true x c e in
    subst (λ d. count_by (adding d s) (x ∷ row) ≡ count_by s (x ∷ row) + cond (is_in (x ∷ row) d) 1
    0) z (at_own (ap s z ∙ new)))
    (λ e. at_other e (row_count s c row (rising_tail x row rising) new))
    (true_or_false (x == c))
  where
    at_own : s x ≡ false → count_by (adding x s) (x ∷ row) ≡ count_by s (x ∷ row) + cond
        (is_in (x ∷ row) x) 1 0
    at_own f =
        let tail : count_by (adding x s) row ≡ count_by s row =
        absent_count s x row (above_absent x row rising) in
        rw (
          sum_by-cons (λ d. cond (adding x s d) 1 0) x row,
          sum_by-cons (λ d. cond (s d) 1 0) x row,
          f,
          eq-eqb x x refl,
        ) (omega (arith, tail))

    at_other : (x == c) ≡ false → count_by (adding c s) row ≡ count_by s row + cond (is_in row c) 1
        0 → count_by (adding c s) (x ∷ row) ≡ count_by s (x ∷ row) + cond (is_in (x ∷ row) c) 1 0
    at_other e tail =
        let other : (c == x) ≡ false =
        ne_eqb c x (λ z. true≢false (sym (eq-eqb x c (sym z)) ∙ e)) in
        rw (
          sum_by-cons (λ d. cond (adding c s d) 1 0) x row,
          sum_by-cons (λ d. cond (s d) 1 0) x row,
          e,
          other,
          or_none (s x),
        ) (omega (arith, tail))

-- the entries of a set with one column more are those of the set, and one for each row that has the
-- column
module _ (s : Set) (c : ℕ) (new : s c ≡ false) where
  one_long : (r : ℕ) (b : Bool) → length (cond b (r ∷ []) []) ≡ cond b 1 0
  one_long r true = refl
  one_long r false = refl

  count_rows : (rows : List (List ℕ)) → All IsStrictlyIncreasing rows → (i : ℕ) → i ≤ length rows
      → sum_by (count_by (adding c s)) (take i rows) ≡ sum_by (count_by s) (take i rows) + length
      (column_in (take i rows) c)
  count_rows rows rising zero le = refl
  count_rows rows rising (suc i) le =
      let front : List (List ℕ) = take i rows in
      let row : List ℕ = get_or rows i [] in
      let before : sum_by (count_by (adding c s)) front ≡ sum_by (count_by s) front + length
      (column_in front c) = count_rows rows rising i (omega arith) in
      let one : count_by (adding c s) row ≡ count_by s row + cond (is_in row c) 1 0 =
      row_count s c row (rising i [] le) new in
      let next : suc i ≡ i + 1 = omega arith in
      let parts : take (suc i) rows ≡ front ++ row ∷ [] = ap (λ k. take k rows) next
      ∙ take_more rows i [] le in
      let long : length (column_in (front ++ row ∷ []) c) ≡ length (column_in front c) + cond
      (is_in row c) 1 0 =
      ap length (column_next front row c) ∙ length-append (column_in front c)
      (cond (is_in row c) (length front ∷ []) []) ∙ ap (λ n. length (column_in front c) + n)
      (one_long (length front) (is_in row c)) in
      rw parts (omega (
        arith,
        before,
        one,
        long,
        sum_by-append (count_by (adding c s)) front (row ∷ []),
        sum_by-append (count_by s) front (row ∷ []),
        sum_by-cons (count_by (adding c s)) row [],
        sum_by-cons (count_by s) row [],
      ))

  pub entries_adding : (m : Matrix) → All IsStrictlyIncreasing m.rows
      → entries m (adding c s) ≡ entries m s + length (column_of m c)
  entries_adding m rising =
      subst (λ (rows : List (List ℕ)). sum_by (count_by (adding c s)) rows ≡ sum_by (count_by s)
      rows + length (column_in rows c)) (take-length m.rows)
      (count_rows m.rows rising (length m.rows) (le_refl (length m.rows)))

-- the rows of a code rise
pub rows_rise : (m : Matrix) → HasShape m → All IsStrictlyIncreasing m.rows
rows_rise m shape = All-from_get_or IsStrictlyIncreasing m.rows [] (λ i lt. (shape.row i lt).rising)
