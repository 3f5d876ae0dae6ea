-- The columns of rows, each as the rows that have it.
use Rattle.std.proofs.Common.{◌≡◌, ◌≢◌, ℕ, zero, suc, ◌+◌, ◌<◌, ◌≤◌, ⊎_elim, false, ◌||◌, ◌==◌}
use Rattle.std.proofs.Common.{cond, List, [], ◌∷◌, ◌++◌, All, length, take, get_or, set, filter}
use Rattle.std.proofs.Common.{replicate, refl, sym, ap, ap₂, ◌∙◌, subst, arith, eqb-true, eq-eqb}
use Rattle.std.proofs.Common.{true≢false, not, append-nil, length-set, get_or-set_same}
use Rattle.std.proofs.Common.{get_or-set_other, length-append}
use Rattle.std.specs.List.{range_with_len}
use Rattle.std.specs.List.Sorted.{IsStrictlyIncreasing}
use Rattle.std.proofs.Math.Seq.{get_or-append_seam}
use Rattle.std.proofs.lemmas.Bool.{ne_eqb}
use Rattle.std.proofs.lemmas.List.{length-replicate, length-take-le, ext_get_or, take_more}
use Rattle.std.proofs.lemmas.List.{get_or_append_left, map-id, get_or-map}
use Rattle.std.proofs.lemmas.List.Elements.{All-head, All-tail}
use Rattle.std.proofs.lemmas.List.Folds.{list_any-append}
use Rattle.std.proofs.lemmas.List.FromFn.{length-map-range_with_len, get_or-map-range_with_len}
use Rattle.std.proofs.lemmas.List.FromFn.{filter_of_map_range_with_len_more, length-range_with_len}
use Rattle.std.proofs.lemmas.List.Filters.{length-filter_both}
use Rattle.sparse_rows.specs.Matrix.{Matrix, IsCode, is_in, has_entry}
use Rattle.sparse_rows.specs.Closure.{Set, members}
use Rattle.sparse_rows.specs.Columns.{column_in, column_of}
use Rattle.sparse_rows.specs.Rows.{columns_in, GainsRow}
use Rattle.sparse_rows.proofs.Sets.{or_none, true_or_false}
use Rattle.sparse_rows.proofs.Rising.{before_place}
use Rattle.smallvec.specs.SmallVec.{SmallVec}
use Rattle.sparse_rows.specs.Rows.{lists_of}

-- a row whose columns lie below one hasn't that one
pub below_absent : (c : ℕ) (row : List ℕ) → All (λ x. x < c) row → is_in row c ≡ false
below_absent c [] h = refl
below_absent c (x ∷ row) h = rw (ne_eqb x c (λ e. let lt : x < c = All-head (λ y. y < c) x row h in
    absurd (omega arith))) (below_absent c row (All-tail (λ y. y < c) x row h))

-- ---- a row is put behind each of its columns

pub gains_none : (r : ℕ) (old : List (List ℕ)) → GainsRow r [] old old
gains_none r old = record { count = refl; each = λ c. sym (append-nil (get_or old c [])) }

pub gains_more : (r : ℕ) (row : List ℕ) (i c : ℕ) (old now new : List (List ℕ))
    → IsStrictlyIncreasing row → i < length row → c ≡ get_or row i 0 → c < length old
    → GainsRow r (take i row) old now → new ≡ set now c (get_or now c [] ++ r ∷ [])
    → GainsRow r (take (i + 1) row) old new
gains_more r row i c old now new rising lt is inside h new_is = record {
  count = ap length new_is ∙ length-set now c (get_or now c [] ++ r ∷ []) ∙ h.count;
  each = λ d. ⊎_elim (λ e. at_own d (eqb-true c d e)) (λ e. at_other d e) (true_or_false (c == d));
}
  where
    grown : (d : ℕ) → is_in (take (i + 1) row) d ≡ (is_in (take i row) d || (c == d))
    grown d = ap (λ columns. is_in columns d) (take_more row i 0 lt
        ∙ ap (λ (x : ℕ). take i row ++ x ∷ []) (sym is)) ∙ list_any-append (λ x. x == d)
        (take i row) (c ∷ []) ∙ ap (λ b. is_in (take i row) d || b) (or_none (c == d))

    absent : is_in (take i row) c ≡ false
    absent = below_absent c (take i row) (subst (λ (x : ℕ). All (λ y. y < x) (take i row)) (sym is)
        (before_place row i rising lt))

    at_own : (d : ℕ) → c ≡ d → get_or new d [] ≡ get_or old d []
        ++ cond (is_in (take (i + 1) row) d) (r ∷ []) []
    at_own d e = subst (λ (x : ℕ). get_or new x [] ≡ get_or old x []
        ++ cond (is_in (take (i + 1) row) x) (r ∷ []) []) e
        (ap (λ (xs : List (List ℕ)). get_or xs c []) new_is
        ∙ get_or-set_same now c (get_or now c [] ++ r ∷ []) [] (rw h.count inside)
        ∙ ap (λ (xs : List ℕ). xs ++ r ∷ []) (h.each c
        ∙ ap (λ b. get_or old c [] ++ cond b (r ∷ []) []) absent ∙ append-nil (get_or old c []))
        ∙ sym (ap (λ b. get_or old c [] ++ cond b (r ∷ []) []) (grown c
        ∙ ap₂ ◌||◌ absent (eq-eqb c c refl))))

    at_other : (d : ℕ) → (c == d) ≡ false → get_or new d [] ≡ get_or old d []
        ++ cond (is_in (take (i + 1) row) d) (r ∷ []) []
    at_other d e =
        let apart : d ≢ c = λ z. true≢false (sym (eq-eqb c d (sym z)) ∙ e) in
        ap (λ (xs : List (List ℕ)). get_or xs d []) new_is
        ∙ get_or-set_other now c d (get_or now c [] ++ r ∷ []) [] apart ∙ h.each d
        ∙ ap (λ b. get_or old d [] ++ cond b (r ∷ []) [])
        (sym (grown d ∙ ap (λ b. is_in (take i row) d || b) e ∙ or_none (is_in (take i row) d)))

-- ---- the members of a set, one position more

pub members_next : (n : ℕ) (s : Set) → members (n + 1) s ≡ members n s ++ cond (s n) (n ∷ []) []
members_next n s =
    ap (filter s) (sym (map-id (range_with_len 0 (n + 1)))) ∙ filter_of_map_range_with_len_more s
    (λ c. c) 0 n n (omega arith)
    ∙ ap (λ (xs : List ℕ). filter s xs ++ cond (s n) (n ∷ []) []) (map-id (range_with_len 0 n))

-- sets that agree below n have the same members below n
pub members_agree : (n : ℕ) (s t : Set) → ((c : ℕ) → c < n → s c ≡ t c) → members n s ≡ members n t
members_agree zero s t h = refl
members_agree (suc n) s t h =
    let more : n + 1 ≡ suc n = omega arith in
    subst (λ k. members k s ≡ members k t) more
    (members_next n s ∙ ap₂ (λ (xs : List ℕ) b. xs ++ cond b (n ∷ []) [])
    (members_agree n s t (λ c lt. h c (omega arith))) (h n (omega arith))
    ∙ sym (members_next n t))

-- ---- the columns with one row more

pub column_next : (rows : List (List ℕ)) (row : List ℕ) (c : ℕ)
    → column_in (rows ++ row ∷ []) c ≡ column_in rows c ++ cond (is_in row c) (length rows ∷ []) []
column_next rows row c =
    ap (λ n. members n grown) (length-append rows (row ∷ []))
    ∙ members_next (length rows) grown
    ∙ ap₂ (λ (xs : List ℕ) b. xs ++ cond b (length rows ∷ []) [])
    (members_agree (length rows) grown (λ r. is_in (get_or rows r []) c)
    (λ r lt. ap (λ columns. is_in columns c) (get_or_append_left rows (row ∷ []) [] r lt)))
    (ap (λ columns. is_in columns c) (get_or-append_seam rows row [] []))
  where
    grown : Set
    grown r = is_in (get_or (rows ++ row ∷ []) r []) c

pub length_columns : (n : ℕ) (rows : List (List ℕ)) → length (columns_in n rows) ≡ n
length_columns n rows = length-map-range_with_len (column_in rows) 0 n

pub column_at : (n : ℕ) (rows : List (List ℕ)) (c : ℕ) → c < n
    → get_or (columns_in n rows) c [] ≡ column_in rows c
column_at n rows c lt = get_or-map-range_with_len (column_in rows) 0 n c c [] lt (omega arith)

-- of no rows
pub columns_none : (n : ℕ) → replicate n [] ≡ columns_in n []
columns_none n = ext_get_or [] (replicate n []) (columns_in n []) (length-replicate n []
    ∙ sym (length_columns n [])) (λ c lt.
    at n c (rw length-replicate at lt) ∙ sym (column_at n [] c (rw length-replicate at lt)))
  where
    at : (n c : ℕ) → c < n → get_or {A = List ℕ} (replicate n []) c [] ≡ []
    at zero c lt = refl
    at (suc n) zero lt = refl
    at (suc n) (suc c) lt = at n c (omega arith)

-- one row more
pub columns_next : (n : ℕ) (rows : List (List ℕ)) (row : List ℕ) (old new : List (List ℕ))
    → old ≡ columns_in n rows → GainsRow (length rows) row old new
    → new ≡ columns_in n (rows ++ row ∷ [])
columns_next n rows row old new is h = ext_get_or [] new (columns_in n (rows ++ row ∷ [])) (long
    ∙ sym (length_columns n (rows ++ row ∷ []))) (λ c lt.
    let inside : c < n = rw long at lt in
    h.each c ∙ ap (λ (xs : List ℕ). xs ++ cond (is_in row c) (length rows ∷ []) [])
    (ap (λ (xs : List (List ℕ)). get_or xs c []) is ∙ column_at n rows c inside)
    ∙ sym (column_at n (rows ++ row ∷ []) c inside ∙ column_next rows row c))
  where
    long : length new ≡ n
    long = h.count ∙ ap length is ∙ length_columns n rows

-- ---- a row that is kept by itself
pub lists_set : (rows : List (SmallVec ℕ)) (c : ℕ) (row : SmallVec ℕ) → c < length rows
    → lists_of (set rows c row) ≡ set (lists_of rows) c row.items
lists_set [] c row lt = absurd (omega arith)
lists_set (x ∷ rows) zero row lt = refl
lists_set (x ∷ rows) (suc c) row lt = ap (λ (xs : List (List ℕ)). x.items ∷ xs)
    (lists_set rows c row (omega arith))

-- each column of a code is short

pub code_column_short : (m : Matrix) → IsCode m → (c : ℕ) → length (column_of m c) ≤ 65536
code_column_short m h c =
    let both : length (column_of m c) + length (filter (λ r. not (has_entry m r c))
    (range_with_len 0 (length m.rows))) ≡ length (range_with_len 0 (length m.rows)) =
    length-filter_both (λ r. has_entry m r c) (λ r. not (has_entry m r c)) (λ r. refl)
    (range_with_len 0 (length m.rows)) in
    omega (arith, both, length-range_with_len 0 (length m.rows), h.shape.count, h.most)

-- ---- lists that are kept one by one

pub length_lists : (rows : List (SmallVec ℕ)) → length (lists_of rows) ≡ length rows
length_lists [] = refl
length_lists (x ∷ rows) = ap suc (length_lists rows)

pub lists_at : (rows : List (SmallVec ℕ)) (r : ℕ) (row : SmallVec ℕ) → r < length rows
    → row ≡ get_or rows r row → get_or (lists_of rows) r [] ≡ row.items
lists_at rows r row lt is = get_or-map (λ (x : SmallVec ℕ). x.items) rows r row [] lt
    ∙ ap (λ (x : SmallVec ℕ). x.items) (sym is)

pub lists_none : (n : ℕ) → lists_of (replicate n (record { items = []; capacity = 8 })) ≡ replicate
    n []
lists_none zero = refl
lists_none (suc n) = ap (λ (xs : List (List ℕ)). [] ∷ xs) (lists_none n)

-- one more of the rows
pub columns_step : (n : ℕ) (rows : List (SmallVec ℕ)) (r : ℕ) (row : SmallVec ℕ)
    (old new : List (List ℕ)) → r < length rows → row ≡ get_or rows r row
    → old ≡ columns_in n (take r (lists_of rows)) → GainsRow r row.items old new
    → new ≡ columns_in n (take (r + 1) (lists_of rows))
columns_step n rows r row old new lt is old_is h =
    let inside : r < length (lists_of rows) = rw length_lists lt in
    let long : r ≡ length (take r (lists_of rows)) =
    sym (length-take-le r (lists_of rows) (omega arith)) in
    columns_next n (take r (lists_of rows)) row.items old new old_is
    (subst (λ i. GainsRow i row.items old new) long h)
    ∙ ap (columns_in n) (sym (take_more (lists_of rows) r [] inside
    ∙ ap (λ (x : List ℕ). take r (lists_of rows) ++ x ∷ []) (lists_at rows r row lt is)))
