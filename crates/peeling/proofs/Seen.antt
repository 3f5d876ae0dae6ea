-- The i-th row of a column sees that the column is known.
use mathlib.Core.Path.{fun_ext}
use Rattle.std.proofs.Common.{◌≡◌, ◌≢◌, ◌↔◌, ℕ, ◌+◌, ◌-◌, ◌%◌, ◌<◌, ◌≤◌, ◌⊎◌, ⊎_elim, IsTrue, Bool}
use Rattle.std.proofs.Common.{true}
use Rattle.std.proofs.Common.{false, ◌||◌, ◌&&◌, ◌==◌, List, [], ◌∷◌, ◌++◌, length, get_or, set}
use Rattle.std.proofs.Common.{take, drop, filter, not, All, refl, sym, ap, ap₂, ◌∙◌, subst, arith}
use Rattle.std.proofs.Common.{true≢false, bit_xor, length-set, length-drop, get_or-set_same}
use Rattle.std.proofs.lemmas.Bool.{cases_lt}
use Rattle.std.proofs.Math.Seq.{take-set-lt}
use Rattle.std.proofs.lemmas.List.{take_more, get_or_past, get_or-take, get_or-drop, take-set-le}
use Rattle.std.proofs.lemmas.List.{drop-set-lt, drop-set-add}
use Rattle.std.proofs.lemmas.List.Folds.{list_any-append}
use Rattle.std.proofs.lemmas.List.Filters.{length-filter_both}
use Rattle.fec_base.specs.Symbol.{IsSymbol, zero_symbol, xor, xor_sum}
use Rattle.sparse_rows.specs.Matrix.{Matrix, IsCode, row_of, is_in}
use Rattle.sparse_rows.specs.Codeword.{symbol_at, IsAssignment}
use Rattle.sparse_rows.proofs.Planes.{symbol_at_is}
use Rattle.sparse_rows.specs.Closure.{Set, flagged, outside, adding}
use Rattle.sparse_rows.specs.Columns.{column_of}
use Rattle.sparse_rows.proofs.Flat.{code_row_short}
use Rattle.sparse_rows.proofs.Sets.{or_none}
use Rattle.sparse_rows.proofs.Rising.{before_place}
use Rattle.sparse_rows.proofs.Transposed.{below_absent}
use Rattle.sparse_rows.proofs.Entries.{column_rises, column_within, column_has}
use Rattle.sparse_rows.proofs.Encode.{sum_is_symbol}
use Rattle.peeling.specs.declared.unknowns.Unknowns.{Unknowns}
use Rattle.peeling.specs.Peeled.{IsLaid}
use Rattle.peeling.specs.Unknowns.{unknowns_of, IsCounted}
use Rattle.peeling.specs.Worklist.{seen_by, IsUnderWay, IsWorked}
use Rattle.peeling.proofs.Flags.{flagged_set}
use Rattle.peeling.proofs.Laid.{keeping, symbol_there, symbols_put, laid_with}
use Rattle.peeling.proofs.Columns.{single_below}
use Rattle.peeling.proofs.Counted.{one_less, new_left, sum_new, counted_more, counted_keeping}
use Rattle.peeling.proofs.Counted.{one_left, none_left}
use Rattle.peeling.proofs.UnderWay.{and_true, seeing, sees_more, sees_only, sees_all, rebuilds}

-- a flag that is set is one of the flags
pub flagged_below : (known : List Bool) (c : ℕ) → flagged known c ≡ true → c < length known
flagged_below known c e = ⊎_elim (λ lt. lt)
    (λ le. absurd (true≢false (sym e ∙ get_or_past known c false le))) (cases_lt c (length known))

pub past_flags : (known : List Bool) (n : ℕ) → length known ≡ n → (c : ℕ) → n ≤ c
    → flagged known c ≡ false
past_flags known n long c le = get_or_past known c false (omega (arith, long, le))

module _ (m : Matrix) (code : IsCode m) (len c i : ℕ) (place : i < length (column_of m c)) (r : ℕ)
    (r_is : r ≡ get_or (column_of m c) i 0) (done : Set) (unseen : done c ≡ false) where
  abbrev front : List ℕ
  front = take i (column_of m c)

  pub row_within : r < length m.rows
  row_within = subst (λ j. j < length m.rows) (sym r_is) (column_within m c i place)

  pub there : is_in (row_of m r) c ≡ true
  there = subst (λ j. is_in (row_of m j) c ≡ true) (sym r_is) (column_has m c i place)

  not_before : is_in front r ≡ false
  not_before = below_absent r front (subst (λ (j : ℕ). All (λ x. x < j) front) (sym r_is)
      (before_place (column_of m c) i (column_rises m c) place))

  pub not_seen : seen_by front c done r c ≡ false
  not_seen = ap₂ (λ a b. a || (b && (c == c))) unseen not_before

  joined : (a b p q : Bool) → ((a || (p && b)) || (q && b)) ≡ (a || ((p || q) && b))
  joined true b p q = refl
  joined false true true q = refl
  joined false true false q = refl
  joined false false true true = refl
  joined false false true false = refl
  joined false false false true = refl
  joined false false false false = refl

  pub seen_more : seeing r c (seen_by front c done) ≡ seen_by (take (i + 1) (column_of m c)) c done
  seen_more = fun_ext (λ j. fun_ext (λ d. joined (done d) (c == d) (is_in front j) (r == j)
      ∙ ap (λ b. done d || (b && (c == d))) (sym (grown j))))
    where
      grown : (j : ℕ) → is_in (take (i + 1) (column_of m c)) j ≡ (is_in front j || (r == j))
      grown j = ap (λ (rows : List ℕ). is_in rows j) (take_more (column_of m c) i 0 place
          ∙ ap (λ (x : ℕ). front ++ x ∷ []) (sym r_is)) ∙ list_any-append (λ x. x == j) front
          (r ∷ []) ∙ ap (λ b. is_in front j || b) (or_none (r == j))

  module _ (known : List Bool) (cells : List (List ℕ)) (rows : List Unknowns)
      (kept : IsLaid m.n len known (take m.n cells))
      (counted : IsCounted m len (seen_by front c done) (symbol_at len (take m.n cells)) rows
      (drop m.n cells)) (is_known : flagged known c ≡ true) where
    abbrev symbols : List (List ℕ)
    symbols = take m.n cells

    abbrev sums : List (List ℕ)
    sums = drop m.n cells

    abbrev y : ℕ → List ℕ
    y = symbol_at len symbols

    is : IsAssignment len y
    is = symbol_at_is len symbols kept.each

    pub column_inside : c < m.n
    column_inside = omega (arith, flagged_below known c is_known, kept.flags)

    pub row_inside : r < length rows
    row_inside = omega (arith, row_within, counted.count)

    sum_inside : r < length sums
    sum_inside = omega (arith, row_within, counted.long)

    pub cells_long : m.n + length m.rows ≡ length cells
    cells_long = let rest : length sums ≡ length cells - m.n = length-drop m.n cells in
        omega (arith, rest, counted.long, row_within)

    pub column_short : c < 65536
    column_short = omega (arith, column_inside, code.most)

    -- what the row has left is counted exactly, once it has seen the column
    few : length (outside (adding c (seen_by front c done r)) (row_of m r)) < 65536
    few = omega (
      arith,
      one_less (seen_by front c done r) c (row_of m r) (code.shape.row r row_within).rising there
          not_seen,
      length-filter_both (seen_by front c done r) (λ d. not (seen_by front c done r d)) (λ d. refl)
          (row_of m r),
      code_row_short m code r (omega (arith, row_within, code.shape.count)),
    )

    module _ (d0 new : Unknowns) (new_is : new ≡ record {
      count = ((get_or rows r d0).count + 65535) % 65536;
      columns = bit_xor (get_or rows r d0).columns c;
    }) (spot : ℕ) (spot_is : spot ≡ m.n + r)
        (next : List (List ℕ)) (next_is : next ≡ set cells spot
        (xor (get_or cells spot []) (get_or cells c []))) where
      abbrev sum : List ℕ
      sum = xor (symbol_at len sums r) (y c)

      -- the sums behind the symbols have the new one, and the symbols are as they were
      added : xor (get_or cells spot []) (get_or cells c []) ≡ sum
      added = ap₂ xor (ap (λ (k : ℕ). get_or cells k []) spot_is ∙ sym (get_or-drop m.n cells r [])
          ∙ symbol_there len sums r sum_inside)
          (sym (get_or-take m.n cells c [] column_inside) ∙ symbol_there len symbols c
          (omega (arith, column_inside, kept.count)))

      next_sums : drop m.n next ≡ set sums r sum
      next_sums = ap (drop m.n) (next_is ∙ ap₂ (λ (k : ℕ) (s : List ℕ). set cells k s) spot_is
          added) ∙ drop-set-add m.n cells r sum

      next_symbols : take m.n next ≡ symbols
      next_symbols = ap (take m.n) next_is ∙ take-set-le m.n cells spot
          (xor (get_or cells spot []) (get_or cells c [])) (omega arith)

      others : Set
      others = adding c (seen_by front c done r)

      left_is : new ≡ unknowns_of (outside others (row_of m r))
      unfolding others
      left_is = new_left m code.shape len (seen_by front c done) y is rows sums counted r c
          row_within there not_seen d0 (get_or rows r d0) new refl new_is sum refl (drop m.n next)
          next_sums

      count_is : new.count ≡ length (outside others (row_of m r))
      unfolding others
      count_is = let all : new.count ≡ length (outside others (row_of m r)) % 65536 =
          ap (λ (u : Unknowns). u.count) left_is in omega (arith, all, few)

      total_is : sum ≡ xor_sum len y (filter others (row_of m r))
      unfolding others
      total_is = sum_new m code.shape len (seen_by front c done) y is rows sums counted r c
          row_within there not_seen d0 (get_or rows r d0) new refl new_is sum refl (drop m.n next)
          next_sums

      counted_next : IsCounted m len (seeing r c (seen_by front c done)) y (set rows r new)
          (drop m.n next)
      counted_next = counted_more m code.shape len (seen_by front c done) y is rows sums counted r c
          row_within there not_seen d0 (get_or rows r d0) new refl new_is sum refl (drop m.n next)
          next_sums

      sum_symbol : IsSymbol len sum
      sum_symbol = subst (IsSymbol len) (sym total_is)
          (sum_is_symbol len y is (filter others (row_of m r)))

      pub next_long : length next ≡ length cells
      next_long = ap length next_is ∙ length-set cells spot
          (xor (get_or cells spot []) (get_or cells c []))

      -- the sum is found in its place
      pub found_sum : get_or next spot [] ≡ sum
      found_sum = ap (λ (w : List (List ℕ)). get_or w spot []) (next_is ∙ ap (set cells spot) added)
          ∙ get_or-set_same cells spot sum [] (omega (arith, cells_long, row_within))

      pub found_long : length (get_or next spot []) ≡ len
      found_long = ap length found_sum ∙ sum_symbol.long

      -- one column is left
      module _ (one : new.count ≡ 1) where
        single : outside others (row_of m r) ≡ new.columns ∷ []
        single = one_left (outside others (row_of m r))
            (sym count_is ∙ one)
            ∙ ap (λ z. z ∷ []) (sym (ap (λ (u : Unknowns). u.columns) left_is))

        pub left_below : new.columns < m.n
        left_below = single_below m code r (omega (arith, row_within, code.shape.count)) others
            new.columns single

      module _ (before base : Set) (x : ℕ → List ℕ) (held : Bool)
          (h : IsUnderWay m len before base x (seen_by front c done) (flagged known) y held) where
        abbrev Next : List Bool → List (List ℕ) → Bool → Type 0
        Next flags word b = IsWorked m len before base x (seen_by (take (i + 1) (column_of m c)) c
            done) flags word (set rows r new) b

        -- the symbols stayed, and the row has seen the column
        symbols_stayed : (b : Bool) → IsUnderWay m len before base x
            (seeing r c (seen_by front c done)) (flagged known) y b → Next known next b
        symbols_stayed b way = record {
          kept = subst (IsLaid m.n len known) (sym next_symbols) kept;
          counted = subst (λ (w : List (List ℕ)). IsCounted m len
              (seen_by (take (i + 1) (column_of m c)) c done) (symbol_at len w) (set rows r new)
              (drop m.n next)) (sym next_symbols)
              (subst (λ (s : ℕ → Set). IsCounted m len s y (set rows r new) (drop m.n next))
              seen_more counted_next);
          under_way = subst (λ (w : List (List ℕ)). IsUnderWay m len before base x
              (seen_by (take (i + 1) (column_of m c)) c done) (flagged known) (symbol_at len w) b)
              (sym next_symbols)
              (subst (λ (s : ℕ → Set). IsUnderWay m len before base x s (flagged known) y b)
              seen_more way);
        }

        pub worked_none : new.count ≡ 0 → (zero : Bool)
            → IsTrue zero ↔ (get_or next spot [] ≡ zero_symbol (length (get_or next spot [])))
            → Next known next (held && zero)
        unfolding others
        worked_none none zero zero_is =
            let empty : outside (adding c (seen_by front c done r)) (row_of m r) ≡ [] =
            none_left _ (sym count_is ∙ none) in
            let length_is : zero_symbol (length (get_or next spot [])) ≡ zero_symbol len =
            ap zero_symbol found_long in
            symbols_stayed (held && zero) (sees_all m len before base x (seen_by front c done)
            (flagged known) y held h r c row_within is_known empty zero (
              (λ e. sym total_is ∙ sym found_sum ∙ zero_is.0 e ∙ length_is),
              (λ e. zero_is.1 (found_sum ∙ total_is ∙ e ∙ sym length_is)),
            ) there not_seen)

        pub worked_some : (1 < new.count) ⊎ ((new.count ≡ 1) × (flagged known new.columns ≡ true))
            → Next known next (held && true)
        unfolding others
        worked_some more = symbols_stayed (held && true)
            (subst (IsUnderWay m len before base x (seeing r c (seen_by front c done))
            (flagged known) y) (sym (and_true held))
            (sees_only m len before base x (seen_by front c done) (flagged known) y held h r c
            row_within is_known some_outside single_known))
          where
            some_outside : outside (adding c (seen_by front c done r)) (row_of m r) ≢ []
            some_outside e = let none : new.count ≡ 0 = count_is ∙ ap length e in
                ⊎_elim (λ (lt : 1 < new.count). absurd (omega arith))
                (λ (p : (new.count ≡ 1) × (flagged known new.columns ≡ true)). absurd
                (omega (arith, p.0))) more

            single_known : (d : ℕ) → outside (adding c (seen_by front c done r)) (row_of m r)
                ≡ d ∷ [] → flagged known d ≡ true
            single_known d e = ⊎_elim (λ (lt : 1 < new.count). absurd
                (let one : new.count ≡ 1 = count_is ∙ ap length e in omega arith))
                (λ (p : (new.count ≡ 1) × (flagged known new.columns ≡ true)). let z : new.columns
                ≡ d = cc (sym (single p.0) ∙ e) in subst (λ b. flagged known b ≡ true) z p.1)
                more

        pub worked_one : new.count ≡ 1 → flagged known new.columns ≡ false → (word : List (List ℕ))
            → word ≡ set next new.columns (get_or next spot [])
            → Next (set known new.columns true) word (held && true)
        unfolding others
        worked_one one unknown word word_is =
            let d : ℕ = new.columns in
            let here : d < m.n = left_below one in
            let found : List ℕ = get_or next spot [] in
            let is_symbol : IsSymbol len found = subst (IsSymbol len) (sym found_sum) sum_symbol in
            let word_symbols : take m.n word ≡ set symbols d found = ap (take m.n) word_is
            ∙ take-set-lt m.n next d found here ∙ ap (λ (w : List (List ℕ)). set w d found)
            next_symbols in
            let word_sums : drop m.n word ≡ drop m.n next = ap (drop m.n) word_is
            ∙ drop-set-lt m.n next d found here in
            let grown : symbol_at len (take m.n word) ≡ keeping d found y =
            ap (symbol_at len) word_symbols ∙ symbols_put len symbols found d
            (omega (arith, here, kept.count)) in
            let flags : flagged (set known d true) ≡ adding d (flagged known) =
            flagged_set known d (rw kept.flags here) in
            let next_way : IsUnderWay m len before base x (seeing r c (seen_by front c done))
            (adding d (flagged known)) (keeping d found y) held =
            rebuilds m len before base x (seen_by front c done) (flagged known) y held h r c
            row_within is_known code.shape is d (single one) unknown (kept.zero d unknown) found
            (found_sum ∙ total_is) in
            let next_counted : IsCounted m len (seeing r c (seen_by front c done))
            (keeping d found y) (set rows r new) (drop m.n next) =
            counted_keeping m code.shape len (seeing r c (seen_by front c done)) y is
            (set rows r new) (drop m.n next) counted_next (flagged known)
            (sees_more m len before base x (seen_by front c done) (flagged known) y held h r c
            row_within is_known) d found unknown in
            record {
              kept = subst (IsLaid m.n len (set known d true)) (sym word_symbols)
                  (laid_with m.n len known symbols d found kept here is_symbol);
              counted = subst (λ (s : ℕ → Set). IsCounted m len s (symbol_at len (take m.n word))
                  (set rows r new) (drop m.n word)) seen_more (rw (grown, word_sums) next_counted);
              under_way = subst (λ (s : ℕ → Set). IsUnderWay m len before base x s
                  (flagged (set known d true)) (symbol_at len (take m.n word)) (held && true))
                  seen_more
                  (subst (IsUnderWay m len before base x (seeing r c (seen_by front c done))
                  (flagged (set known d true)) (symbol_at len (take m.n word)))
                  (sym (and_true held)) (rw (grown, flags) next_way));
            }
