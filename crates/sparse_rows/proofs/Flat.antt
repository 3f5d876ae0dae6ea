-- Lists that lie one after the other in one list of items.
use Rattle.std.proofs.Common.{◌≡◌, ℕ, zero, suc, ◌+◌, ◌-◌, ◌<◌, ◌≤◌, List, [], ◌∷◌, ◌++◌, All}
use Rattle.std.proofs.Common.{length, take, drop, get_or, sum_by, refl, sym, ap, ap₂, ◌∙◌, subst}
use Rattle.std.proofs.Common.{arith, le_of_eq, suc-add, add-one, length-append, length-drop}
use Rattle.std.specs.List.Sorted.{IsStrictlyIncreasing}
use Rattle.std.proofs.Math.Seq.{take-length}
use Rattle.std.proofs.lemmas.List.{length-take-le, take-append-le, drop-append-le, drop_all}
use Rattle.std.proofs.lemmas.List.{get_or_append_left, take_more, map-append}
use Rattle.std.proofs.lemmas.List.{take-map}
use Rattle.std.proofs.lemmas.List.Sums.{sum_by-cons, sum_by_more_le}
use Rattle.smallvec.specs.SmallVec.{SmallVec}
use Rattle.sparse_rows.specs.declared.layout.Layout.TheInside.{Inside}
use Rattle.sparse_rows.specs.Matrix.{Matrix, IsCode, row_of}
use Rattle.sparse_rows.specs.Rows.{AreStarts, lists_from, lists_of}
use Rattle.sparse_rows.proofs.Transposed.{length_lists, lists_at}

-- the starts rise to an end
abbrev pub RisesTo : ℕ → List ℕ → Type 0
RisesTo end [] = ⊥
RisesTo end (start ∷ []) = start ≡ end
RisesTo end (start ∷ next ∷ starts) = (start ≤ next) × RisesTo end (next ∷ starts)

-- what lay_out keeps of its first rows: they lie one after the other, from 0 on
pub record AreLaid (starts columns : List ℕ) (rows : List (List ℕ)) : Type 0 where
  pub first : get_or starts 0 0 ≡ 0
  pub rises : RisesTo (length columns) starts
  pub are : lists_from starts columns ≡ rows

-- row r lies from its start to the next
pub record IsRowAt (starts columns row : List ℕ) (r : ℕ) : Type 0 where
  pub room : r + 1 < length starts
  pub rise : get_or starts r 0 ≤ get_or starts (r + 1) 0
  pub within : get_or starts (r + 1) 0 ≤ length columns
  pub is : row ≡ take (get_or starts (r + 1) 0 - get_or starts r 0)
      (drop (get_or starts r 0) columns)

-- what the starts are index by index, they are from one to the next, and the other way round

pub rises_to : (starts : List ℕ) (end : ℕ) → 0 < length starts → ((i : ℕ) → i + 1 < length starts
    → get_or starts i 0 ≤ get_or starts (i + 1) 0)
    → get_or starts (length starts - 1) 0 ≡ end → RisesTo end starts
rises_to [] end some rising last = absurd (omega arith)
rises_to (a ∷ []) end some rising last = last
rises_to (a ∷ b ∷ starts) end some rising last =
    let before : length (a ∷ b ∷ starts) - 1 ≡ suc (length (b ∷ starts) - 1) = omega arith in (
      rising 0 (omega arith),
      rises_to (b ∷ starts) end (omega arith)
          (λ i lt. rw suc-add at (rising (suc i) (omega (arith, lt))))
          (subst (λ k. get_or (a ∷ b ∷ starts) k 0 ≡ end) before last),
    )

pub rises_at : (starts : List ℕ) (end : ℕ) → RisesTo end starts → (i : ℕ) → i + 1 < length starts
    → get_or starts i 0 ≤ get_or starts (i + 1) 0
rises_at [] end h i lt = absurd h
rises_at (a ∷ []) end h i lt = absurd (omega arith)
rises_at (a ∷ b ∷ starts) end h zero lt = h.0
rises_at (a ∷ b ∷ starts) end h (suc i) lt =
    rw suc-add (rises_at (b ∷ starts) end h.1 i (omega arith))

pub rises_some : (starts : List ℕ) (end : ℕ) → RisesTo end starts → 0 < length starts
rises_some [] end h = absurd h
rises_some (a ∷ starts) end h = omega arith

pub rises_last : (starts : List ℕ) (end : ℕ) → RisesTo end starts
    → get_or starts (length starts - 1) 0 ≡ end
rises_last [] end h = absurd h
rises_last (a ∷ []) end h = h
rises_last (a ∷ b ∷ starts) end h =
    let before : suc (length (b ∷ starts) - 1) ≡ length (a ∷ b ∷ starts) - 1 = omega arith in
    subst (λ k. get_or (a ∷ b ∷ starts) k 0 ≡ end) before (rises_last (b ∷ starts) end h.1)

-- a start is at most the end
pub start_within : (start : ℕ) (starts : List ℕ) (end : ℕ) → RisesTo end (start ∷ starts)
    → start ≤ end
start_within start [] end h = le_of_eq h
start_within start (next ∷ starts) end h = omega (arith, h.0, start_within next starts end h.1)

pub starts_rise : (starts columns : List ℕ) → AreStarts starts columns
    → RisesTo (length columns) starts
starts_rise starts columns h = rises_to starts (length columns) h.some h.rising h.last

pub laid_starts : (starts columns : List ℕ) (rows : List (List ℕ)) → AreLaid starts columns rows
    → AreStarts starts columns
laid_starts starts columns rows h = record {
  some = rises_some starts (length columns) h.rises;
  first = h.first;
  rising = rises_at starts (length columns) h.rises;
  last = rises_last starts (length columns) h.rises;
}

-- one row more

-- a later end, put behind the starts
rises_push : (starts : List ℕ) (end later : ℕ) → RisesTo end starts → end ≤ later
    → RisesTo later (starts ++ later ∷ [])
rises_push [] end later h le = absurd h
rises_push (a ∷ []) end later h le = (omega (arith, h), refl)
rises_push (a ∷ b ∷ starts) end later h le = (h.0, rises_push (b ∷ starts) end later h.1 le)

-- a row put behind the columns, and their new end behind the starts
rows_push : (starts columns row : List ℕ) → RisesTo (length columns) starts
    → lists_from (starts ++ length (columns ++ row) ∷ []) (columns ++ row) ≡ lists_from starts
    columns
    ++ row ∷ []
rows_push [] columns row h = absurd h
rows_push (a ∷ []) columns row h =
    let rest : drop a (columns ++ row) ≡ row = drop-append-le a columns row (le_of_eq h)
    ∙ ap (λ xs. xs ++ row) (drop_all a columns (le_of_eq (sym h))) in
    let long : length (columns ++ row) - a ≡ length row =
    omega (arith, length-append columns row, h) in
    ap (λ xs. xs ∷ []) (ap₂ take long rest ∙ take-length row)
rows_push (a ∷ b ∷ starts) columns row h =
    let b_within : b ≤ length columns = start_within b starts (length columns) h.1 in
    let same : drop a (columns ++ row) ≡ drop a columns ++ row = drop-append-le a columns row
    (omega (arith, h.0)) in
    ap₂ ◌∷◌ (ap (take (b - a)) same ∙ take-append-le (b - a) (drop a columns) row
    (omega (arith, length-drop a columns))) (rows_push (b ∷ starts) columns row h.1)

pub laid_more : (starts columns row : List ℕ) (rows : List (List ℕ)) → AreLaid starts columns rows
    → AreLaid (starts ++ length (columns ++ row) ∷ []) (columns ++ row) (rows ++ row ∷ [])
laid_more starts columns row rows h = record {
  first = get_or_append_left starts (length (columns ++ row) ∷ []) 0 0
      (rises_some starts (length columns) h.rises) ∙ h.first;
  rises = rises_push starts (length columns) (length (columns ++ row)) h.rises
      (omega (arith, length-append columns row));
  are = rows_push starts columns row h.rises ∙ ap (λ rows. rows ++ row ∷ []) h.are;
}

-- one more of the rows that are laid out
pub laid_next : (rows : List (SmallVec ℕ)) (i : ℕ) (row : SmallVec ℕ)
    (starts columns more_starts more_columns : List ℕ) → i < length rows → row ≡ get_or rows i row
    → more_columns ≡ columns ++ row.items → more_starts ≡ starts ++ length more_columns ∷ []
    → AreLaid starts columns (lists_of (take i rows))
    → AreLaid more_starts more_columns (lists_of (take (i + 1) rows))
laid_next rows i row starts columns more_starts more_columns lt is columns_are starts_are h =
    let next : take (i + 1) rows ≡ take i rows ++ row ∷ [] = take_more rows i row lt
    ∙ ap (λ r. take i rows ++ r ∷ []) (sym is) in
    let lists : lists_of (take (i + 1) rows) ≡ lists_of (take i rows) ++ row.items ∷ [] =
    ap lists_of next ∙ map-append (λ (r : SmallVec ℕ). r.items) (take i rows) (row ∷ []) in
    rw (lists, starts_are, columns_are) (laid_more starts columns row.items (lists_of (take i rows))
    h)

-- the rows have all columns
pub sum_rows : (start : ℕ) (starts columns : List ℕ) → RisesTo (length columns) (start ∷ starts)
    → start + sum_by length (lists_from (start ∷ starts) columns) ≡ length columns
sum_rows start [] columns h = omega (arith, h)
sum_rows start (next ∷ starts) columns h =
    let next_within : next ≤ length columns = start_within next starts (length columns) h.1 in
    let long : length (take (next - start) (drop start columns)) ≡ next - start =
    length-take-le (next - start) (drop start columns)
    (omega (arith, length-drop start columns)) in
    omega (
      arith,
      h.0,
      long,
      sum_rows next starts columns h.1,
      sum_by-cons length (take (next - start) (drop start columns))
          (lists_from (next ∷ starts) columns),
    )

-- the lists that start at 0 have all items
pub all_items : (starts items : List ℕ) → AreStarts starts items
    → length items ≡ sum_by length (lists_from starts items)
all_items [] items h = absurd (omega (arith, h.some))
all_items (start ∷ starts) items h =
    omega (arith, h.first, sum_rows start starts items (starts_rise (start ∷ starts) items h))

-- what was laid so far has as many items as its lists
pub laid_long : (starts items : List ℕ) (lists : List (List ℕ)) → AreLaid starts items lists
    → length items ≡ sum_by length lists
laid_long starts items lists h = all_items starts items (laid_starts starts items lists h)
    ∙ ap (sum_by length) h.are

-- and with one more no more than all
pub laid_within : (lists : List (SmallVec ℕ)) (i : ℕ) (list : SmallVec ℕ)
    (starts items more : List ℕ) → i < length lists → list ≡ get_or lists i list
    → AreLaid starts items (lists_of (take i lists)) → more ≡ items ++ list.items
    → length more ≤ sum_by length (lists_of lists)
laid_within lists i list starts items more lt is h more_is =
    let all : sum_by length (take i (lists_of lists)) + length (get_or (lists_of lists) i []) ≤
    sum_by
    length (lists_of lists) = sum_by_more_le length (lists_of lists) i [] (rw length_lists lt) in
    let front : length items ≡ sum_by length (take i (lists_of lists)) =
    laid_long starts items (lists_of (take i lists)) h
    ∙ ap (sum_by length) (sym (take-map (λ (x : SmallVec ℕ). x.items) i lists)) in
    let own : length (get_or (lists_of lists) i []) ≡ length list.items =
    ap length (lists_at lists i list lt is) in
    omega (arith, all, front, own, ap length more_is, length-append items list.items)

-- a row of the list is at its place
pub row_at : (starts columns : List ℕ) → RisesTo (length columns) starts → (r : ℕ)
    → r < length (lists_from starts columns)
    → IsRowAt starts columns (get_or (lists_from starts columns) r []) r
row_at [] columns h r lt = absurd h
row_at (a ∷ []) columns h r lt = absurd (omega arith)
row_at (a ∷ b ∷ starts) columns h zero lt =
    record {
      room = omega arith;
      rise = h.0;
      within = start_within b starts (length columns) h.1;
      is = refl;
    }
row_at (a ∷ b ∷ starts) columns h (suc r) lt =
    let tail = row_at (b ∷ starts) columns h.1 r (omega arith) in
    record {
      room = omega (arith, tail.room);
      rise = rw suc-add tail.rise;
      within = rw suc-add tail.within;
      is = rw suc-add tail.is;
    }

-- strictly rising lists

-- the i-th of them is at least i
pub rising_above : (row : List ℕ) → IsStrictlyIncreasing row → (i : ℕ) → i < length row
    → i ≤ get_or row i 0
rising_above row rising zero lt = omega arith
rising_above row rising (suc i) lt =
    let step : get_or row i 0 < get_or row (suc i) 0 = rw add-one at (rising i (omega arith)) in
    omega (arith, rising_above row rising i (omega arith), step)

-- so a list up to p has at most p + 1 of them
pub rising_short : (row : List ℕ) (p : ℕ) → IsStrictlyIncreasing row
    → All (λ column. column ≤ p) row → length row ≤ p + 1
rising_short [] p rising within = omega arith
rising_short (x ∷ row) p rising within =
    let last : length row ≤ get_or (x ∷ row) (length row) 0 = rising_above (x ∷ row) rising
    (length row) (omega arith) in
    omega (arith, last, within (length row) 0 (omega arith))

-- each list of a layout is at its place

pub layout_list_at : (l : Inside) {lists : List (List ℕ)} {starts items : List ℕ}
    → AreStarts l.starts.items l.items.items → lists_from l.starts.items l.items.items ≡ lists
    → starts ≡ l.starts.items → items ≡ l.items.items → (i : ℕ) → i < length lists
    → IsRowAt starts items (get_or lists i []) i
layout_list_at l h is same_starts same_items i lt =
    let low : i < length (lists_from l.starts.items l.items.items) = rw (← is) at lt in
    let here = row_at l.starts.items l.items.items (starts_rise l.starts.items l.items.items h) i
    low in
    rw (same_starts, same_items, ← is) here

-- the rows of a code are short

pub code_row_short : (m : Matrix) → IsCode m → (r : ℕ) → r < m.n - m.k → length (row_of m r) ≤ 65536
code_row_short m h r lt =
    let count : m.k + length m.rows ≡ m.n = h.shape.count in
    let row = h.shape.row r (omega arith) in
    omega (arith, h.most, rising_short (row_of m r) (m.k + r) row.rising row.within)
