-- Source symbols that come one by one, each into its row and its column of the grid.
use Rattle.std.proofs.Common.{◌≡◌, ℕ, ◌+◌, ◌-◌, ◌/◌, ◌%◌, ◌<◌, ◌≤◌, min, List, [], ◌++◌, replicate}
use Rattle.std.proofs.Common.{length, get_or, set, subst, sym, ap, ap₂, ◌∙◌, arith, ◌∷◌}
use Rattle.std.proofs.Common.{length-append, length-set}
use Rattle.std.specs.Int.{div_ceil}
use Rattle.std.specs.List.{range_with_len}
use Rattle.std.proofs.lemmas.List.{get_or_append_left, get_or-append_right, set-append_left}
use Rattle.std.proofs.lemmas.List.{get_or_at, set_at}
use Rattle.std.proofs.lemmas.List.{set-append_right, get_or-replicate, length-replicate}
use Rattle.std.proofs.lemmas.List.{replicate-append-replicate}
use Rattle.std.proofs.lemmas.List.FromFn.{length-map-range_with_len, fill_by_all}
use Rattle.sparse_rows.specs.Matrix.{Matrix, with_column, with_entry}
use Rattle.parity_2d.proofs.Classes.{class, classes, classes_more, range_below, range_more}
use Rattle.parity_2d.proofs.Classes.{with_last_column}
use Rattle.parity_2d.proofs.Places.{row_inside, column_inside}

-- the rows of the grid and its columns after c source symbols
abbrev pub sources_below : ℕ → ℕ → ℕ → List (List ℕ)
sources_below k w c = classes (λ x. x / w) (div_ceil k w) c ++ classes (λ x. x % w) (min w k) c

-- and those of the corners behind them
abbrev pub all_below : ℕ → ℕ → ℕ → ℕ → List (List ℕ)
all_below k w corners c = sources_below k w c ++ replicate corners (range_with_len 0 c)

-- one column more in a row of the first part of the rows, and in one of the second
column_left : (xs ys : List (List ℕ)) (i c : ℕ) → i < length xs
    → set (xs ++ ys) i (with_column c (get_or (xs ++ ys) i []))
    ≡ set xs i (with_column c (get_or xs i [])) ++ ys
column_left xs ys i c inside = ap (λ row. set (xs ++ ys) i (with_column c row))
    (get_or_append_left xs ys [] i inside) ∙ set-append_left xs ys i _ inside

column_right : (xs ys : List (List ℕ)) (n j c : ℕ) → length xs ≡ n
    → set (xs ++ ys) (n + j) (with_column c (get_or (xs ++ ys) (n + j) [])) ≡ xs ++ set ys j
    (with_column c (get_or ys j []))
column_right xs ys n j c long =
    let place : n + j - n ≡ j = omega arith in
    ap (λ row. set (xs ++ ys) (n + j) (with_column c row)) (get_or-append_right xs ys n (n + j) []
    long (omega arith) ∙ ap (λ i. get_or ys i []) place)
    ∙ set-append_right xs ys n (n + j) _ long (omega arith)
    ∙ ap (λ i. xs ++ set ys i (with_column c (get_or ys j []))) place

-- no source symbol yet
sources_none : (k w : ℕ) → replicate (div_ceil k w + min w k) [] ≡ sources_below k w 0
sources_none k w = sym (replicate-append-replicate (div_ceil k w) (min w k) [])
    ∙ ap₂ (λ xs ys. xs ++ ys) (none (λ x. x / w) (div_ceil k w)) (none (λ x. x % w) (min w k))
  where
    none : (class_of : ℕ → ℕ) (count : ℕ) → replicate count [] ≡ classes class_of count 0
    none class_of count = fill_by_all (class class_of 0) (replicate count []) count []
        (length-replicate count []) (λ i lt. get_or-replicate count i [] [] lt)

-- source symbol c more
sources_more : (m : Matrix) (k w c : ℕ) → 1 ≤ w → c < k
    → with_entry (with_entry (record m { rows = sources_below k w c }) (c / w) c)
    (div_ceil k w + c % w) c ≡ record m { rows = sources_below k w (c + 1) }
sources_more m k w c wide lt = ap (λ (rows : List (List ℕ)). record m { rows = rows })
    (ap (λ rows. set rows (a + c % w) (with_column c (get_or rows (a + c % w) []))) first ∙ second)
  where
    a : ℕ
    a = div_ceil k w

    by_row : ℕ → List (List ℕ)
    by_row = classes (λ x. x / w) a

    by_column : ℕ → List (List ℕ)
    by_column = classes (λ x. x % w) (min w k)

    long : (d : ℕ) → length (by_row d) ≡ a
    long d = length-map-range_with_len (class (λ x. x / w) d) 0 a

    first : set (by_row c ++ by_column c) (c / w)
        (with_column c (get_or (by_row c ++ by_column c) (c / w) [])) ≡ by_row (c + 1) ++ by_column
        c
    first = column_left (by_row c) (by_column c) (c / w) c (rw long (row_inside k w c wide lt))
        ∙ ap (λ xs. xs ++ by_column c) (classes_more (λ x. x / w) a c (row_inside k w c wide lt))

    second : set (by_row (c + 1) ++ by_column c) (a + c % w)
        (with_column c (get_or (by_row (c + 1) ++ by_column c) (a + c % w) [])) ≡ by_row (c + 1)
        ++ by_column (c + 1)
    second = column_right (by_row (c + 1)) (by_column c) a (c % w) c (long (c + 1))
        ∙ ap (λ ys. by_row (c + 1) ++ ys) (classes_more (λ x. x % w) (min w k) c
        (column_inside k w c wide lt))

-- the grid has as many rows and columns after each symbol
length_sources : (k w c : ℕ) → length (sources_below k w c) ≡ div_ceil k w + min w k
length_sources k w c = omega (
  arith,
  length-append (classes (λ x. x / w) (div_ceil k w) c) (classes (λ x. x % w) (min w k) c),
  length-map-range_with_len (class (λ x. x / w) c) 0 (div_ceil k w),
  length-map-range_with_len (class (λ x. x % w) c) 0 (min w k),
)

-- no source symbol yet, with the corners
pub all_none : (k w corners : ℕ) → replicate (div_ceil k w + min w k + corners) []
    ≡ all_below k w corners 0
all_none k w corners = sym (replicate-append-replicate (div_ceil k w + min w k) corners [])
    ∙ ap (λ xs. xs ++ replicate corners []) (sources_none k w)

-- source symbol c more in the grid: the rows behind it stay
grid_more : (m : Matrix) (behind : List (List ℕ)) (k w c : ℕ) → 1 ≤ w → c < k
    → with_entry (with_entry (record m { rows = sources_below k w c ++ behind }) (c / w) c)
    (div_ceil k w + c % w) c ≡ record m { rows = sources_below k w (c + 1) ++ behind }
grid_more m behind k w c wide lt = ap (λ (rows : List (List ℕ)). record m { rows = rows })
    (ap (λ rows. set rows second (with_column c (get_or rows second []))) begun
    ∙ column_left middle behind second c (omega (arith, long, column_inside k w c wide lt))
    ∙ ap (λ xs. xs ++ behind) done)
  where
    first : ℕ
    first = c / w

    second : ℕ
    second = div_ceil k w + c % w

    before : List (List ℕ)
    before = sources_below k w c

    middle : List (List ℕ)
    middle = set before first (with_column c (get_or before first []))

    long : length middle ≡ div_ceil k w + min w k
    long = length-set before first _ ∙ length_sources k w c

    begun : set (before ++ behind) first (with_column c (get_or (before ++ behind) first []))
        ≡ middle ++ behind
    begun = column_left before behind first c
        (omega (arith, length_sources k w c, row_inside k w c wide lt))

    done : set middle second (with_column c (get_or middle second [])) ≡ sources_below k w (c + 1)
    done = ap (λ (x : Matrix). x.rows) (sources_more m k w c wide lt)

-- and in the row of one corner
corner_more : (m : Matrix) (front : List (List ℕ)) (row c : ℕ) → length front ≡ row
    → with_entry (record m { rows = front ++ range_with_len 0 c ∷ [] }) row c
    ≡ record m { rows = front ++ range_with_len 0 (c + 1) ∷ [] }
corner_more m front row c long = ap (λ (rows : List (List ℕ)). record m { rows = rows })
    (ap (λ x. set (front ++ range_with_len 0 c ∷ []) row (with_column c x))
    (get_or_at front (range_with_len 0 c) [] [] row long)
    ∙ ap (set (front ++ range_with_len 0 c ∷ []) row)
    (with_last_column c (range_with_len 0 c) (range_below c) ∙ sym (range_more c))
    ∙ set_at front (range_with_len 0 c) [] (range_with_len 0 (c + 1)) row long)

-- source symbol c more, with one corner and with none
pub all_more : (m : Matrix) (k w corners c : ℕ) → 1 ≤ w → c < k → corners ≡ 1
    → with_entry (with_entry (with_entry (record m { rows = all_below k w corners c }) (c / w) c)
    (div_ceil k w + c % w) c) (div_ceil k w + min w k) c
    ≡ record m { rows = all_below k w corners (c + 1) }
all_more m k w corners c wide lt one = subst (λ some. with_entry (with_entry (with_entry
    (record m { rows = all_below k w some c }) (c / w) c) (div_ceil k w + c % w) c)
    (div_ceil k w + min w k) c ≡ record m { rows = all_below k w some (c + 1) }) (sym one)
    (ap (λ x. with_entry x (div_ceil k w + min w k) c)
    (grid_more m (range_with_len 0 c ∷ []) k w c wide lt)
    ∙ corner_more m (sources_below k w (c + 1)) (div_ceil k w + min w k) c
    (length_sources k w (c + 1)))

pub all_more_none : (m : Matrix) (k w corners c : ℕ) → 1 ≤ w → c < k → corners ≡ 0
    → with_entry (with_entry (record m { rows = all_below k w corners c }) (c / w) c)
    (div_ceil k w + c % w) c ≡ record m { rows = all_below k w corners (c + 1) }
all_more_none m k w corners c wide lt none = subst (λ some. with_entry (with_entry
    (record m { rows = all_below k w some c }) (c / w) c) (div_ceil k w + c % w) c
    ≡ record m { rows = all_below k w some (c + 1) }) (sym none) (grid_more m [] k w c wide lt)
