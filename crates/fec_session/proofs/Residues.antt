-- Solutions of a residue, and words that fit.
use Rattle.std.proofs.Common.{◌≡◌, ℕ, zero, suc, ◌<◌, ⊎_elim, Bool, true, false, not, cond, ◌==◌}
use Rattle.std.proofs.Common.{List, [], ◌∷◌, length, get_or, filter, map, All, refl, sym, ap, ap₂}
use Rattle.std.proofs.Common.{◌∙◌, subst, arith, true≢false, eq-eqb, bit_xor, zero-add}
use Rattle.std.proofs.Common.{le_of_suc-le-suc}
use Rattle.std.specs.List.{slice_index}
use Rattle.std.proofs.lemmas.Bool.{cases_lt, not-true}
use Rattle.std.proofs.lemmas.List.{get_or-map, get_or_past, length-map, ext_get_or}
use Rattle.std.proofs.lemmas.List.FromFn.{get_or-map-range_with_len, length-map-range_with_len}
use Rattle.std.proofs.lemmas.List.Elements.{filter_passes, All-map, All-filter, All-from_get_or}
use Rattle.std.proofs.lemmas.List.Elements.{All-head, All-tail}
use Rattle.fec_base.specs.Symbol.{IsSymbol, xor, xor_sum, zero_symbol}
use Rattle.sparse_rows.specs.Codeword.{IsAssignment, Arrival, positions, symbol_at, SumsToZero}
use Rattle.sparse_rows.specs.Closure.{Set, flagged, outside}
use Rattle.sparse_rows.specs.Fitting.{IsFitting}
use Rattle.sparse_rows.proofs.Algebra.{total_split, total_agree, same_of_zero}
use Rattle.sparse_rows.specs.Totals.{total}
use Rattle.sparse_rows.proofs.Sets.{true_or_false, rounds_hold, any_from}
use Rattle.sparse_rows.proofs.Shape.{row_below}
use Rattle.sparse_rows.proofs.Closed.{row_within}
use Rattle.fec_base.proofs.SymbolBytes.{byte, same_bytes}
use Rattle.sparse_rows.proofs.Planes.{byte_laws, byte_sum, plane_zero, zero_from_planes, length_sum}
use Rattle.sparse_rows.proofs.Planes.{symbol_at_is}
use Rattle.sparse_rows.proofs.Null.{in_all, in_at}
use Rattle.gauss.specs.Equations.{Equation, IsSolution}
use Rattle.peeling.specs.Decoder.{Decoder, IsDecoder, kept}
use Rattle.sparse_rows.specs.Determined.{IsConsistent}
use Rattle.peeling.specs.Stands.{StandsFor}
use Rattle.peeling.proofs.Arrivals.{sums_agree}
use Rattle.peeling.proofs.Decided.{kept_of_codeword}
use Rattle.fec_session.specs.Residue.{unknown_columns, place, equation_of, has_any, is_open}
use Rattle.fec_session.specs.Residue.{residue, completed, filled}
use Rattle.fec_session.specs.Pairing.{open_symbols}
use Rattle.fec_session.proofs.Places.{rank_less, rank_below, at_rank, rank_at, member_is}
use Rattle.fec_session.proofs.Places.{member_below, members_less}

-- ---- lists

-- what holds of each element that a filter keeps
pub all_kept : {X : Type 0} (P : X → Type 0) (p : X → Bool) (d : X) (xs : List X)
    → All P (filter p xs) → (i : ℕ) → i < length xs → p (get_or xs i d) ≡ true → P (get_or xs i d)
all_kept P p d [] h i lt e = absurd (omega arith)
all_kept P p d (x ∷ xs) h zero lt e = All-head P x (filter p xs)
    (subst (All P) (ap (λ b. cond b (x ∷ filter p xs) (filter p xs)) e) h)
all_kept P p d (x ∷ xs) h (suc i) lt e = all_kept P p d xs (by_case (p x) h) i (le_of_suc-le-suc lt)
    e
  where
    by_case : (b : Bool) → All P (cond b (x ∷ filter p xs) (filter p xs)) → All P (filter p xs)
    by_case true g = All-tail P x (filter p xs) g
    by_case false g = g

-- what holds of each element of a map
pub all_mapped : {X Y : Type 0} (P : Y → Type 0) (f : X → Y) (xs : List X) → All P (map f xs)
    → All (λ x. P (f x)) xs
all_mapped P f xs h i d lt = subst P (get_or-map f xs i d (f d) lt) (h i (f d) (rw length-map lt))

-- the sum of the symbols of a map
sum_map : (len : ℕ) (y : ℕ → List ℕ) (f : ℕ → ℕ) (cs : List ℕ)
    → xor_sum len y (map f cs) ≡ xor_sum len (λ c. y (f c)) cs
sum_map len y f [] = refl
sum_map len y f (c ∷ cs) = ap (xor (y (f c))) (sum_map len y f cs)

-- a row with no column outside
pub outside_none : (s : Set) (row : List ℕ) → has_any (outside s row) ≡ false → outside s row ≡ []
outside_none s row e = by_case (outside s row) e
  where
    by_case : (cs : List ℕ) → has_any cs ≡ false → cs ≡ []
    by_case [] f = refl
    by_case (c ∷ cs) f = absurd (true≢false f)

-- ---- one row

module _ (len : ℕ) (known : Set) (y x : ℕ → List ℕ) (hy : IsAssignment len y)
    (hx : IsAssignment len x) (agree : (c : ℕ) → known c ≡ true → x c ≡ y c) (row : List ℕ) where
  known_part : (j : ℕ) → total 0 bit_xor (λ c. byte j (x c)) (filter known row)
      ≡ byte j (xor_sum len y (filter known row))
  known_part j = total_agree 0 bit_xor byte_laws known (λ c. byte j (x c)) (λ c. byte j (y c))
      (λ c e. ap (byte j) (agree c e)) row
      ∙ sym (byte_sum len y (λ c. (hy c).long) j (filter known row))

  rest_part : (j : ℕ) → total 0 bit_xor (λ c. byte j (x c)) (outside known row)
      ≡ byte j (xor_sum len x (outside known row))
  rest_part j = sym (byte_sum len x (λ c. (hx c).long) j (outside known row))

  -- a row sums to zero exactly where the known symbols and the others have one sum
  row_to : SumsToZero len x row → xor_sum len x (outside known row) ≡ xor_sum len y
      (filter known row)
  row_to e = same_bytes _ _ (length_sum len x (λ c. (hx c).long) (outside known row)
      ∙ sym (length_sum len y (λ c. (hy c).long) (filter known row))) (λ j.
      sym (rest_part j) ∙ sym (same_of_zero 0 bit_xor byte_laws _ _
      (sym (total_split 0 bit_xor byte_laws known (λ c. byte j (x c)) row)
      ∙ plane_zero len x (λ c. (hx c).long) row e j)) ∙ known_part j)

  row_from : xor_sum len x (outside known row) ≡ xor_sum len y (filter known row)
      → SumsToZero len x row
  row_from e = zero_from_planes len x (λ c. (hx c).long) row (λ j. total_split 0 bit_xor byte_laws
      known (λ c. byte j (x c)) row
      ∙ ap₂ bit_xor (known_part j) (rest_part j ∙ ap (byte j) e)
      ∙ byte_laws.self (byte j (xor_sum len y (filter known row))))

-- ---- the unknown columns and their places

-- the unknown column at a place
abbrev pub column : Decoder → ℕ → ℕ
column core i = slice_index (unknown_columns core) i

module _ (core : Decoder) where
  abbrev pub unknown : Set
  unknown c = not (flagged core.known c)

  pub unknown_from : (c : ℕ) → flagged core.known c ≡ false → unknown c ≡ true
  unknown_from c e = rw e refl

  pub known_not : (c : ℕ) → unknown c ≡ true → flagged core.known c ≡ false
  known_not c e = not-true (flagged core.known c) e

  -- the column at a place is unknown and below n, and its place is that one
  pub column_is : (i : ℕ) → i < length (unknown_columns core)
      → (flagged core.known (column core i) ≡ false) × (column core i < core.matrix.n)
      × (place core (column core i) ≡ i)
  column_is i lt = (
    known_not _ (member_is unknown core.matrix.n i lt),
    member_below unknown core.matrix.n i lt,
    rank_at unknown core.matrix.n i lt,
  )

  -- an unknown column has a place, where it is
  pub column_place : (c : ℕ) → c < core.matrix.n → flagged core.known c ≡ false
      → column core (place core c) ≡ c
  column_place c lt e = at_rank unknown core.matrix.n c lt (unknown_from c e)

  pub place_below : (c : ℕ) → c < core.matrix.n → flagged core.known c ≡ false
      → place core c < length (unknown_columns core)
  place_below c lt e = rank_below unknown core.matrix.n c lt (unknown_from c e)

  -- places rise with the columns, and columns with their places
  pub place_less : (c d : ℕ) → flagged core.known c ≡ false → c < d → place core c < place core d
  place_less c d e lt = rank_less unknown c d (unknown_from c e) lt

  pub column_less : (i j : ℕ) → i < j → j < length (unknown_columns core)
      → column core i < column core j
  column_less i j lt lt2 = members_less unknown core.matrix.n i j lt lt2

  -- each unknown column of a row is below n
  pub outside_all : IsDecoder core → (i : ℕ) → i < length core.matrix.rows → (P : ℕ → Type 0)
      → ((c : ℕ) → c < core.matrix.n → flagged core.known c ≡ false → P c)
      → All P (outside (flagged core.known) (get_or core.matrix.rows i []))
  outside_all is i lt P h k d lt2 = h _
      (All-filter unknown (λ c. c < core.matrix.n) (get_or core.matrix.rows i [])
      (row_below core.matrix is.code.shape i lt) k d lt2)
      (known_not _ (in_all (λ c. unknown c ≡ true)
      (outside (flagged core.known) (get_or core.matrix.rows i []))
      (filter_passes unknown (get_or core.matrix.rows i [])) _
      (in_at (outside (flagged core.known) (get_or core.matrix.rows i [])) k d lt2)))

  -- a position that arrived is below n
  pub arrived_below : IsDecoder core → (arrivals : List Arrival) → StandsFor core arrivals → (i : ℕ)
      → i < length arrivals → (get_or arrivals i (0, [])).0 < core.matrix.n
  arrived_below is arrivals st i lt = ⊎_elim (λ below. rw (← is.arrived) below)
      (λ past. absurd (true≢false (sym here ∙ sym (st.arrived c) ∙ get_or_past core.arrived c false
      past))) (cases_lt c (length core.arrived))
    where
      c : ℕ
      c = (get_or arrivals i (0, [])).0

      here : positions arrivals c ≡ true
      here = any_from (λ (a : Arrival). a.0 == c) (0, []) arrivals i lt (eq-eqb c c refl)

-- ---- words and solutions

-- a symbol that is kept completes itself
pub completed_known : (core : Decoder) (y : ℕ → List ℕ) (c : ℕ) → flagged core.known c ≡ true
    → completed core y c ≡ kept core c
completed_known core y c e = rw e refl

-- and where none is kept, y does
pub completed_open : (core : Decoder) (y : ℕ → List ℕ) (c : ℕ) → flagged core.known c ≡ false
    → completed core y c ≡ y (place core c)
completed_open core y c e = rw e refl

module _ (core : Decoder) (is : IsDecoder core) (arrivals : List Arrival)
    (st : StandsFor core arrivals) (ok : core.clashed ≡ false) where
  consistent : IsConsistent core.matrix core.len arrivals (kept core)
  consistent = st.agrees ok

  word_keeps : (word : List (List ℕ)) → IsFitting core.matrix core.len arrivals word → (c : ℕ)
      → flagged core.known c ≡ true → symbol_at core.len word c ≡ kept core c
  word_keeps word h c e = sym (kept_of_codeword core arrivals word st h.codeword h.fits c e)

  -- the symbols of a word that fits solve the residue
  pub to_solution : (word : List (List ℕ)) → IsFitting core.matrix core.len arrivals word
      → IsSolution (residue core) (open_symbols core word)
  to_solution word h = record {
    symbols = λ i. hx (column core i);
    sums = All-map (λ (e : Equation). xor_sum core.len (open_symbols core word) e.unknowns ≡ e.sum)
        (equation_of core) (filter (is_open core) core.matrix.rows)
        (All-filter (is_open core) (λ row. xor_sum core.len (open_symbols core word)
        (map (place core) (outside (flagged core.known) row)) ≡ xor_sum core.len (kept core)
        (filter (flagged core.known) row)) core.matrix.rows
        (All-from_get_or (λ row. xor_sum core.len (open_symbols core word)
        (map (place core) (outside (flagged core.known) row)) ≡ xor_sum core.len (kept core)
        (filter (flagged core.known) row)) core.matrix.rows [] (λ i lt.
        sum_map core.len (open_symbols core word) (place core)
        (outside (flagged core.known) (get_or core.matrix.rows i []))
        ∙ sums_agree core.len (λ c. open_symbols core word (place core c)) (symbol_at core.len word)
        (outside (flagged core.known) (get_or core.matrix.rows i []))
        (outside_all core is i lt (λ c. open_symbols core word (place core c) ≡ symbol_at core.len
        word c) (λ c lt2 e. ap (symbol_at core.len word) (column_place core c lt2 e)))
        ∙ row_to core.len (flagged core.known) (kept core) (symbol_at core.len word)
        consistent.symbols hx (word_keeps word h) (get_or core.matrix.rows i [])
        (h.codeword.rows i [] lt))));
  }
    where
      hx : IsAssignment core.len (symbol_at core.len word)
      hx = symbol_at_is core.len word h.codeword.symbols

  module _ (y : ℕ → List ℕ) (solves : IsSolution (residue core) y) where
    fill : ℕ → List ℕ
    fill = completed core y

    fill_is : IsAssignment core.len fill
    unfolding fill
    fill_is c = by_case (flagged core.known c)
      where
        by_case : (b : Bool) → IsSymbol core.len (cond b (kept core c) (y (place core c)))
        by_case true = consistent.symbols c
        by_case false = solves.symbols (place core c)

    fill_keeps : (c : ℕ) → flagged core.known c ≡ true → fill c ≡ kept core c
    unfolding fill
    fill_keeps c e = rw e refl

    fill_rest : (c : ℕ) → flagged core.known c ≡ false → fill c ≡ y (place core c)
    unfolding fill
    fill_rest c e = rw e refl

    -- the equation of a row with an unknown column
    row_equation : (i : ℕ) → i < length core.matrix.rows
        → is_open core (get_or core.matrix.rows i []) ≡ true
        → xor_sum core.len y (map (place core)
        (outside (flagged core.known) (get_or core.matrix.rows i []))) ≡ xor_sum core.len
        (kept core) (filter (flagged core.known) (get_or core.matrix.rows i []))
    row_equation i lt e = all_kept
        (λ row. xor_sum core.len y (map (place core) (outside (flagged core.known) row))
        ≡ xor_sum core.len (kept core) (filter (flagged core.known) row)) (is_open core) []
        core.matrix.rows
        (all_mapped (λ (q : Equation). xor_sum core.len y q.unknowns ≡ q.sum) (equation_of core)
        (filter (is_open core) core.matrix.rows) solves.sums) i lt e

    fill_row : (i : ℕ) → i < length core.matrix.rows
        → SumsToZero core.len fill (get_or core.matrix.rows i [])
    fill_row i lt = ⊎_elim
        (λ e. row_from core.len (flagged core.known) (kept core) fill consistent.symbols fill_is
        fill_keeps (get_or core.matrix.rows i [])
        (sums_agree core.len fill (λ c. y (place core c))
        (outside (flagged core.known) (get_or core.matrix.rows i []))
        (outside_all core is i lt (λ c. fill c ≡ y (place core c)) (λ c lt2 f. fill_rest c f))
        ∙ sym (sum_map core.len y (place core)
        (outside (flagged core.known) (get_or core.matrix.rows i []))) ∙ row_equation i lt e))
        (λ e. let inside = row_within (flagged core.known) (get_or core.matrix.rows i [])
        (outside_none (flagged core.known) (get_or core.matrix.rows i []) e) in
        sums_agree core.len fill (kept core) (get_or core.matrix.rows i [])
        (λ k d lt2. fill_keeps _ (inside k d lt2))
        ∙ consistent.rows i [] lt (λ k d lt2. sym (st.known _) ∙ inside k d lt2))
        (true_or_false (is_open core (get_or core.matrix.rows i [])))

    word_of : List (List ℕ)
    word_of = filled core y

    word_length : length word_of ≡ core.matrix.n
    unfolding word_of
    word_length = length-map-range_with_len (completed core y) 0 core.matrix.n

    word_at : (c : ℕ) → c < core.matrix.n → symbol_at core.len word_of c ≡ fill c
    unfolding word_of fill
    word_at c lt = get_or-map-range_with_len (completed core y) 0 core.matrix.n c c
        (zero_symbol core.len) lt (zero-add c)

    -- a solution gives a word that fits
    pub from_solution : IsFitting core.matrix core.len arrivals (filled core y)
    unfolding word_of
    from_solution = record {
      codeword = record {
        count = word_length;
        symbols = All-from_get_or (IsSymbol core.len) word_of (zero_symbol core.len)
            (λ c lt. rw (word_at c (rw word_length at lt)) (fill_is c));
        rows = All-from_get_or (SumsToZero core.len (symbol_at core.len word_of)) core.matrix.rows
            [] (λ i lt.
            sums_agree core.len (symbol_at core.len word_of) fill (get_or core.matrix.rows i [])
            (λ k d lt2. word_at _ (row_below core.matrix is.code.shape i lt k d lt2))
            ∙ fill_row i lt);
      };
      fits = All-from_get_or (λ (a : Arrival). symbol_at core.len word_of a.0 ≡ a.1) arrivals
          (0, []) (λ i lt.
          word_at _ (arrived_below core is arrivals st i lt)
          ∙ fill_keeps _ (st.known _ ∙ rounds_hold core.matrix core.matrix.n (positions arrivals) _
          (any_from (λ (a : Arrival). a.0 == (get_or arrivals i (0, [])).0) (0, []) arrivals i
          lt (eq-eqb _ _ refl)))
          ∙ consistent.fits i (0, []) lt);
    }

    -- its symbol at an unknown column is that of the solution
    pub filled_at : (i : ℕ) → i < length (unknown_columns core)
        → symbol_at core.len (filled core y) (column core i) ≡ y i
    unfolding word_of
    filled_at i lt = let is_column = column_is core i lt in word_at (column core i) is_column.1
        ∙ fill_rest (column core i) is_column.0 ∙ ap y is_column.2

  -- a word that fits is that of its solution
  pub back : (word : List (List ℕ)) → IsFitting core.matrix core.len arrivals word
      → (y : ℕ → List ℕ) → (solves : IsSolution (residue core) y)
      → ((i : ℕ) → i < length (unknown_columns core) → open_symbols core word i ≡ y i)
      → word ≡ filled core y
  unfolding word_of
  back word h y solves same = ext_get_or (zero_symbol core.len) word (filled core y)
      (h.codeword.count ∙ sym (from_solution y solves).codeword.count) (λ c lt.
      let lt2 : c < core.matrix.n = rw h.codeword.count at lt in
      ⊎_elim (λ e. word_keeps word h c e ∙ sym (fill_keeps y solves c e))
      (λ e. ap (symbol_at core.len word) (sym (column_place core c lt2 e))
      ∙ same (place core c) (place_below core c lt2 e) ∙ sym (fill_rest y solves c e))
      (true_or_false (flagged core.known c))
      ∙ sym (word_at y solves c lt2))
