-- The staircase behind a left side.
use Rattle.std.proofs.Common.{◌≡◌, ℕ, zero, suc, ◌+◌, ◌-◌, ◌<◌, ◌≤◌, List, [], ◌∷◌, ◌++◌, map}
use Rattle.std.proofs.Common.{length, get_or, set, drop, Some, None, All, refl, sym, ap, ap₂, ◌∙◌}
use Rattle.std.proofs.Common.{subst, arith, append-nil, append_assoc, length-append}
use Rattle.std.specs.List.{range_with_len}
use Rattle.std.proofs.lemmas.List.{get_or_at, set_at, drop_more, get_or-set_same}
use Rattle.std.proofs.lemmas.List.{get_or_append_left, get_or_default, set-set}
use Rattle.std.proofs.Math.Seq.{drop-length}
use Rattle.std.proofs.lemmas.List.Elements.{All-nil, All-cons, All-append, All-weaker, All-get_or}
use Rattle.std.proofs.lemmas.List.Elements.{Contains-push}
use Rattle.std.proofs.lemmas.List.FromFn.{length-map-range_with_len, map-range_with_len_more}
use Rattle.std.proofs.lemmas.List.FromFn.{get_or-map-range_with_len}
use Rattle.park_miller.specs.LimitedDraws.{LimitedDraws}
use Rattle.sparse_rows.specs.Matrix.{Matrix, row_of, IsRow, HasShape, with_column, with_entry}
use Rattle.sparse_rows.specs.Building.{IsRising}
use Rattle.sparse_rows.proofs.Rising.{with_column_between, rising_between}
use Rattle.staircase.specs.LeftSide.{left_side, drawn_matrix}
use Rattle.staircase.specs.Left.{IsLeftSide}
use Rattle.staircase.specs.Staircase.{stair, stair_row, with_stairs, staircase_matrix}
use Rattle.staircase.specs.Stairs.{with_stair}

-- a column above all others of a row goes to its end
with_last_column : (c : ℕ) (row : List ℕ) → All (λ x. x < c) row → with_column c row ≡ row ++ c ∷ []
with_last_column c row below = ap (with_column c) (sym (append-nil row))
    ∙ with_column_between c row [] below (All-nil (λ x. c < x))

stair_after : (k r : ℕ) → 0 < r → stair k r ≡ (k + r - 1) ∷ (k + r) ∷ []
stair_after k zero some = absurd (omega arith)
stair_after k (suc i) some = let before : k + i ≡ k + suc i - 1 = omega arith in
    ap (λ c. c ∷ (k + suc i) ∷ []) before

-- the first row, and one after it
pub first_stair : (m : Matrix) (r : ℕ) → r ≡ 0 → All (λ c. c < m.k) (row_of m r)
    → with_entry m r m.k ≡ with_stair m r
first_stair m r first below =
    ap (λ row. record m { rows = set m.rows r row }) (with_last_column m.k (row_of m r) below
    ∙ ap (λ i. row_of m r ++ stair m.k i) (sym first))

pub next_stair : (m : Matrix) (r : ℕ) → 0 < r → r < length m.rows → All (λ c. c < m.k) (row_of m r)
    → with_entry (with_entry m r (m.k + r - 1)) r (m.k + r) ≡ with_stair m r
next_stair m r some inside below = ap (λ (rows : List (List ℕ)). record m { rows = rows })
    (set-set m.rows r _ _ ∙ ap (set m.rows r) (ap (with_column (m.k + r)) first ∙ second))
  where
    row : List ℕ
    row = row_of m r

    less : All (λ c. c < m.k + r - 1) row
    less = All-weaker (λ c. c < m.k) (λ c. c < m.k + r - 1) (λ c lt. omega arith) row below

    first : get_or (set m.rows r (with_column (m.k + r - 1) row)) r [] ≡ row ++ (m.k + r - 1) ∷ []
    first = get_or-set_same m.rows r (with_column (m.k + r - 1) row) [] inside
        ∙ with_last_column (m.k + r - 1) row less

    second : with_column (m.k + r) (row ++ (m.k + r - 1) ∷ []) ≡ stair_row m r
    second =
        with_last_column (m.k + r) (row ++ (m.k + r - 1) ∷ []) (All-append (λ c. c < m.k + r) row
        ((m.k + r - 1) ∷ [])
        (All-weaker (λ c. c < m.k) (λ c. c < m.k + r) (λ c lt. omega arith) row below)
        (All-cons (λ c. c < m.k + r) (m.k + r - 1) [] (omega arith)
        (All-nil (λ c. c < m.k + r))))
        ∙ append_assoc row ((m.k + r - 1) ∷ []) ((m.k + r) ∷ [])
        ∙ ap (λ last. row ++ last) (sym (stair_after m.k r some))

-- the first rows with their repair symbols, and the others
abbrev pub stairs_below : Matrix → ℕ → List (List ℕ)
stairs_below m r = map (stair_row m) (range_with_len 0 r) ++ drop r m.rows

module _ (m : Matrix) (r : ℕ) (inside : r < length m.rows) where
  done : List (List ℕ)
  done = map (stair_row m) (range_with_len 0 r)

  long : length done ≡ r
  unfolding done
  long = length-map-range_with_len (stair_row m) 0 r

  split_is : stairs_below m r ≡ done ++ row_of m r ∷ drop (r + 1) m.rows
  unfolding done
  split_is = ap (λ rows. done ++ rows) (drop_more m.rows r [] inside)

  pub row_is : get_or (stairs_below m r) r [] ≡ row_of m r
  row_is = ap (λ rows. get_or rows r []) split_is ∙ get_or_at done (row_of m r)
      (drop (r + 1) m.rows) [] r long

  pub row_inside : r < length (stairs_below m r)
  row_inside = omega (
    arith,
    ap length split_is,
    length-append done (row_of m r ∷ drop (r + 1) m.rows),
    long,
  )

  more : done ++ stair_row m r ∷ drop (r + 1) m.rows ≡ stairs_below m (r + 1)
  unfolding done
  more = sym (append_assoc done (stair_row m r ∷ []) (drop (r + 1) m.rows))
      ∙ ap (λ rows. rows ++ drop (r + 1) m.rows)
      (sym (map-range_with_len_more (stair_row m) 0 r r (omega arith)))

  -- one row more
  pub stairs_more : with_stair (record m { rows = stairs_below m r }) r
      ≡ record m { rows = stairs_below m (r + 1) }
  stairs_more = ap (λ (rows : List (List ℕ)). record m { rows = rows })
      (ap (λ row. set (stairs_below m r) r (row ++ stair m.k r)) row_is
      ∙ ap (λ rows. set rows r (stair_row m r)) split_is
      ∙ set_at done (row_of m r) (drop (r + 1) m.rows) (stair_row m r) r long ∙ more)

-- all rows have theirs
pub stairs_all : (m : Matrix) (r : ℕ) → r ≡ length m.rows → record m { rows = stairs_below m r }
    ≡ with_stairs m
stairs_all m r all = rw (all, drop-length m.rows)
    (ap (λ (rows : List (List ℕ)). record m { rows = rows })
    (append-nil (map (stair_row m) (range_with_len 0 (length m.rows)))))

-- a row with a higher column at its end rises
rising_push : (c bound : ℕ) (row : List ℕ) → IsRising c row → c < bound
    → IsRising bound (row ++ c ∷ [])
rising_push c bound row rising lt = record {
  rising = rising_between c row [] rising.rising (λ j none. absurd (omega arith)) rising.below
      (All-nil (λ x. c < x));
  below = All-append (λ x. x < bound) row (c ∷ []) (All-weaker (λ x. x < c) (λ x. x < bound)
      (λ x less. omega arith) row rising.below) (All-cons (λ x. x < bound) c [] lt
      (All-nil (λ x. x < bound)));
}

-- with some source symbol it is a row of a code, which ends with that column
pub pushed_is_row : (k c : ℕ) (row : List ℕ) → IsRising c row → 0 < length row → get_or row 0 0 < k
    → IsRow k c (row ++ c ∷ [])
pushed_is_row k c row rising some source = record {
  rising = (rising_push c (c + 1) row rising (omega arith)).rising;
  holds = Contains-push row c;
  within = All-weaker (λ x. x < c + 1) (λ x. x ≤ c) (λ x lt. omega arith) (row ++ c ∷ [])
      (rising_push c (c + 1) row rising (omega arith)).below;
  source = (
    0,
    get_or row 0 0,
    omega (arith, length-append row (c ∷ [])),
    get_or_append_left row (c ∷ []) (get_or row 0 0) 0 some
        ∙ get_or_default row 0 (get_or row 0 0) 0 some,
    source,
  );
}

-- a row of a left side with its repair symbols is a row of the code
pub stair_is_row : (k i : ℕ) (row : List ℕ) → IsRising k row → 0 < length row
    → IsRow k (k + i) (row ++ stair k i)
stair_is_row k zero row rising some = let end : k + 0 ≡ k = omega arith in
    rw end (pushed_is_row k k row rising some (rising.below 0 0 some))
stair_is_row k (suc i) row rising some =
    let higher : IsRising (k + i) row =
    record {
      rising = rising.rising;
      below = All-weaker (λ x. x < k) (λ x. x < k + i) (λ x lt. omega arith) row rising.below;
    } in
    subst (IsRow k (k + suc i)) (append_assoc row ((k + i) ∷ []) ((k + suc i) ∷ []))
    (pushed_is_row k (k + suc i) (row ++ (k + i) ∷ []) (rising_push (k + i) (k + suc i) row higher
    (omega arith)) (omega (arith, length-append row ((k + i) ∷ [])))
    (subst (λ x. x < k) (sym (get_or_append_left row ((k + i) ∷ []) 0 0 some))
    (rising.below 0 0 some)))

-- the staircase has the shape of a code
pub stairs_have_shape : (k n : ℕ) (m : Matrix) → IsLeftSide k n m → HasShape (with_stairs m)
stairs_have_shape k n m left = record {
  count = omega (arith, long, left.filled.count, left.filled.source, left.filled.encoding);
  row = λ i lt. let inside : i < length m.rows = omega (arith, long) in
      subst (IsRow m.k (m.k + i)) (sym (get_or-map-range_with_len (stair_row m) 0 (length m.rows) i
      i [] inside (omega arith)))
      (stair_is_row m.k i (row_of m i)
      (rw (← left.filled.source) at (All-get_or (IsRising k) m.rows i [] inside
      left.filled.rows)) (All-get_or (λ (row : List ℕ). 0 < length row) m.rows i [] inside
      left.some));
}
  where
    long : length (with_stairs m).rows ≡ length m.rows
    long = length-map-range_with_len (stair_row m) 0 (length m.rows)

-- the code from its left side, which a generator gives that has made no draw
module _ (k n n1 seed limit : ℕ) (g : LimitedDraws) (state : g.state ≡ seed) (used : g.used ≡ 0)
    (most : g.limit ≡ limit) where
  start_is : g ≡ record { state = seed; used = 0; limit = limit }
  start_is = ap (λ (s : ℕ). record g { state = s }) state
      ∙ ap₂ (λ (u l : ℕ). record { state = seed; used = u; limit = l }) used most

  pub staircase_over : left_side k n n1 g ≡ None → staircase_matrix k n n1 seed limit ≡ None
  unfolding staircase_matrix
  staircase_over over = rw (← start_is, over) refl

  pub staircase_is : (m : Matrix) (g' : LimitedDraws)
      → left_side k n n1 g ≡ Some (drawn_matrix m g') → staircase_matrix k n n1 seed limit
      ≡ Some (record { matrix = with_stairs m; draws = g'.used })
  unfolding staircase_matrix
  staircase_is m g' left = rw (← start_is, left) refl
