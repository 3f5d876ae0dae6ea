-- What an answer for the residue says of the arrivals.
use Rattle.std.proofs.Common.{le_antisymm, ◌≡◌, ◌≢◌, ◌↔◌, ℕ, ◌+◌, ◌%◌, ◌<◌, ◌≤◌, ⊎_elim, true}
use Rattle.std.proofs.Common.{false, ◌==◌, List, [], ◌∷◌, length, get_or, filter, map, take, All}
use Rattle.std.proofs.Common.{count_by, refl, sym, ap, ◌∙◌, subst, arith, true≢false, eqb-true}
use Rattle.std.proofs.Common.{eq-eqb, zero-add}
use Rattle.std.specs.List.Sorted.{IsStrictlyIncreasing}
use Rattle.std.proofs.Math.Bool.{xor as bool_xor}
use Rattle.std.proofs.lemmas.Bool.{cases_lt, false_from_ne_true}
use Rattle.std.proofs.lemmas.List.{get_or-map, get_or-take, length-map, length-take-le, ext_get_or}
use Rattle.std.proofs.lemmas.List.FromFn.{get_or-map-range_with_len, length-map-range_with_len}
use Rattle.std.proofs.lemmas.List.Elements.{All-map, All-filter, All-from_get_or}
use Rattle.fec_base.specs.Symbol.{zero_symbol}
use Rattle.sparse_rows.specs.Codeword.{Arrival, positions, symbol_at, SumsToZero}
use Rattle.sparse_rows.specs.Closure.{Set, flagged, outside, closure}
use Rattle.sparse_rows.specs.Matrix.{is_in}
use Rattle.sparse_rows.specs.NullWord.{IsNullWord, IsFirstNullWord, last_of}
use Rattle.sparse_rows.specs.Fitting.{IsFitting, IsUndetermined}
use Rattle.sparse_rows.proofs.Algebra.{total_same, total_split, total_agree, total_zero}
use Rattle.sparse_rows.specs.Totals.{total}
use Rattle.sparse_rows.proofs.Parity.{bit_laws, even_from, even_to}
use Rattle.sparse_rows.proofs.Sets.{true_or_false, same_test, rounds_hold, or_cases, or_first}
use Rattle.sparse_rows.proofs.Sets.{or_second}
use Rattle.sparse_rows.proofs.Shape.{row_below}
use Rattle.sparse_rows.proofs.Null.{null_outside, null_even, all_from_in, in_all, in_at}
use Rattle.null_witness.proofs.Subsets.{null_closure}
use Rattle.null_witness.proofs.Increasing.{last_in}
use Rattle.null_witness.proofs.Determined.{two_of_null}
use Rattle.gauss.specs.Equations.{Equation, matrix_of}
use Rattle.gauss.specs.Answer.{IsAnswer, IsFirstNullSet}
use Rattle.gauss.specs.declared.answer.Answer.TheVariants as answer
use Rattle.peeling.specs.Decoder.{Decoder, IsDecoder, kept}
use Rattle.peeling.specs.Lookups.{HasAllSource}
use Rattle.peeling.specs.Stands.{StandsFor}
use Rattle.peeling.proofs.Closure.{closure_full}
use Rattle.peeling.proofs.Decided.{codeword_consistent, kept_of_codeword}
use Rattle.fec_session.specs.Residue.{unknown_columns, place, equation_of, is_open, residue}
use Rattle.fec_session.specs.Residue.{columns_at, completed, filled}
use Rattle.fec_session.specs.Pairing.{open_symbols}
use Rattle.fec_session.specs.Kept.{source_of}
use Rattle.sparse_rows.specs.Determined.{HoldsSource, IsSource}
use Rattle.fec_session.proofs.Residues.{all_kept, all_mapped, outside_none, column, column_is}
use Rattle.fec_session.proofs.Residues.{column_place, column_less, place_below, place_less}
use Rattle.fec_session.proofs.Residues.{outside_all, completed_known, to_solution, from_solution}
use Rattle.fec_session.proofs.Residues.{back}

-- ---- lists of columns

pub in_map : (f : ℕ → ℕ) (xs : List ℕ) (c : ℕ) → is_in (map f xs) c ≡ true
    → (i : ℕ) × (is_in xs i ≡ true) × (f i ≡ c)
in_map f [] c e = absurd (cc)
in_map f (x ∷ xs) c e = ⊎_elim (λ g. (x, or_first (x == x) _ (eq-eqb x x refl), eqb-true (f x) c g))
    (λ g. let r = in_map f xs c g in (r.0, or_second (x == r.0) _ r.1, r.2))
    (or_cases (f x == c) _ e)

pub map_in : (f : ℕ → ℕ) (xs : List ℕ) (i : ℕ) → is_in xs i ≡ true → is_in (map f xs) (f i) ≡ true
map_in f [] i e = absurd (cc)
map_in f (x ∷ xs) i e = ⊎_elim (λ g. or_first (f x == f i) _ (eq-eqb _ _ (ap f (eqb-true x i g))))
    (λ g. or_second (f x == f i) _ (map_in f xs i g)) (or_cases (x == i) _ e)

map_rises : (f : ℕ → ℕ) (xs : List ℕ) → IsStrictlyIncreasing xs
    → ((x y : ℕ) → is_in xs x ≡ true → is_in xs y ≡ true → x < y → f x < f y)
    → IsStrictlyIncreasing (map f xs)
map_rises f xs rising h k lt = let lt2 : k + 1 < length xs = rw length-map at lt in
    let lt3 : k < length xs = omega arith in
    rw (get_or-map f xs k 0 0 lt3, get_or-map f xs (k + 1) 0 0 lt2)
    (h _ _ (in_at xs k 0 lt3) (in_at xs (k + 1) 0 lt2) (rising k lt2))

pub last_map : (f : ℕ → ℕ) (xs : List ℕ) → xs ≢ [] → last_of (map f xs) ≡ f (last_of xs)
last_map f [] h = absurd (h refl)
last_map f (x ∷ []) h = refl
last_map f (x ∷ y ∷ ys) h = last_map f (y ∷ ys) (λ e. cc)

map_nonempty : (f : ℕ → ℕ) (xs : List ℕ) → xs ≢ [] → map f xs ≢ []
map_nonempty f [] h e = h refl
map_nonempty f (x ∷ xs) h e = cc

total_map : {G : Type 0} (o : G) (add : G → G → G) (y : ℕ → G) (f : ℕ → ℕ) (cs : List ℕ)
    → total o add y (map f cs) ≡ total o add (λ c. y (f c)) cs
total_map o add y f [] = refl
total_map o add y f (c ∷ cs) = ap (add (y (f c))) (total_map o add y f cs)

-- a row's parity is that of its columns outside a set with no member of the word
row_parity : (known v : Set) → ((c : ℕ) → known c ≡ true → v c ≡ false) → (row : List ℕ)
    → total false bool_xor v row ≡ total false bool_xor v (outside known row)
row_parity known v none row = total_split false bool_xor bit_laws known v row
    ∙ ap (λ b. bool_xor b (total false bool_xor v (outside known row)))
    (total_agree false bool_xor bit_laws known v (λ c. false) none row
    ∙ total_zero false bool_xor bit_laws _)
    ∙ bit_laws.left _

-- ---- null sets of the residue, and null words of the arrivals

module _ (core : Decoder) (is : IsDecoder core) (arrivals : List Arrival)
    (st : StandsFor core arrivals) where
  -- a word with no known column, and a set of places, with the same columns
  abbrev IsSameSet : List ℕ → List ℕ → Type 0
  IsSameSet word set = (c : ℕ) → c < core.matrix.n → flagged core.known c ≡ false
      → is_in word c ≡ is_in set (place core c)

  row_parities : (word set : List ℕ) → ((c : ℕ) → flagged core.known c ≡ true
      → is_in word c ≡ false) → IsSameSet word set → (i : ℕ) → i < length core.matrix.rows
      → total false bool_xor (is_in word) (get_or core.matrix.rows i []) ≡ total false bool_xor
      (is_in set) (map (place core) (outside (flagged core.known)
      (get_or core.matrix.rows i [])))
  row_parities word set none same i lt = row_parity (flagged core.known) (is_in word) none
      (get_or core.matrix.rows i [])
      ∙ total_same false bool_xor bit_laws (is_in word) (λ c. is_in set (place core c))
      (outside (flagged core.known) (get_or core.matrix.rows i []))
      (outside_all core is i lt (λ c. is_in word c ≡ is_in set (place core c)) same)
      ∙ sym (total_map false bool_xor (is_in set) (place core)
      (outside (flagged core.known) (get_or core.matrix.rows i [])))

  -- a null word has no known column
  pub null_unknown : (word : List ℕ) → IsNullWord core.matrix (positions arrivals) word → (c : ℕ)
      → flagged core.known c ≡ true → is_in word c ≡ false
  null_unknown word null c e = null_outside core.matrix (closure core.matrix (positions arrivals))
      word (null_closure core.matrix (positions arrivals) word null) c (sym (st.known c) ∙ e)

  -- the places of a null word's columns are a null set
  pub to_null_set : (word : List ℕ) → IsNullWord core.matrix (positions arrivals) word
      → IsNullWord (matrix_of (residue core)) (λ c. false) (map (place core) word)
  to_null_set word null = record {
    rising = map_rises (place core) word null.rising (λ c d hc hd lt. place_less core c d
        (outside_known c hc) lt);
    below = all_from_in (λ i. i < length (unknown_columns core)) (map (place core) word)
        (λ i e. let r = in_map (place core) word i e in
        subst (λ j. j < length (unknown_columns core)) r.2
        (place_below core r.0 (in_all (λ d. d < core.matrix.n) word null.below r.0 r.1)
        (outside_known r.0 r.1)));
    nonempty = map_nonempty (place core) word null.nonempty;
    outside = λ k d lt. refl;
    even = All-map (λ row. count_by (is_in (map (place core) word)) row % 2 ≡ 0)
        (λ (e : Equation). e.unknowns) (residue core).equations
        (All-map (λ (e : Equation). count_by (is_in (map (place core) word)) e.unknowns % 2 ≡ 0)
        (equation_of core) (filter (is_open core) core.matrix.rows)
        (All-filter (is_open core) (λ row. count_by (is_in (map (place core) word))
        (map (place core) (outside (flagged core.known) row)) % 2 ≡ 0) core.matrix.rows
        (All-from_get_or (λ row. count_by (is_in (map (place core) word))
        (map (place core) (outside (flagged core.known) row)) % 2 ≡ 0) core.matrix.rows []
        (λ i lt.
        even_from (is_in (map (place core) word))
        (map (place core) (outside (flagged core.known) (get_or core.matrix.rows i [])))
        (sym (row_parities word (map (place core) word) (null_unknown word null) same i lt)
        ∙ null_even core.matrix (positions arrivals) word null i lt)))));
  }
    where
      outside_known : (c : ℕ) → is_in word c ≡ true → flagged core.known c ≡ false
      outside_known c e = false_from_ne_true (flagged core.known c)
          (λ f. true≢false (sym e ∙ null_unknown word null c f))

      same : IsSameSet word (map (place core) word)
      same c lt e = same_test _ _ (map_in (place core) word c)
          (λ f. let r = in_map (place core) word (place core c) f in
          let lt2 : r.0 < core.matrix.n = in_all (λ d. d < core.matrix.n) word null.below r.0 r.1 in
          subst (λ d. is_in word d ≡ true) (sym (column_place core r.0 lt2 (outside_known r.0 r.1))
          ∙ ap (column core) r.2 ∙ column_place core c lt e) r.1)

  -- the columns at a null set's places are a null word
  pub from_null_set : (set : List ℕ) → IsNullWord (matrix_of (residue core)) (λ c. false) set
      → IsNullWord core.matrix (positions arrivals) (columns_at core set)
  from_null_set set null = record {
    rising = map_rises (column core) set null.rising (λ i j hi hj lt. column_less core i j lt
        (below_all j hj));
    below = all_from_in (λ c. c < core.matrix.n) (columns_at core set)
        (λ c e. let r = in_map (column core) set c e in subst (λ d. d < core.matrix.n) r.2
        (column_is core r.0 (below_all r.0 r.1)).1);
    nonempty = map_nonempty (column core) set null.nonempty;
    outside = all_from_in (λ c. positions arrivals c ≡ false) (columns_at core set)
        (λ c e. false_from_ne_true (positions arrivals c) (λ f.
        true≢false (sym e ∙ none c (st.known c ∙ rounds_hold core.matrix core.matrix.n
        (positions arrivals) c f))));
    even = All-from_get_or (λ row. count_by (is_in (columns_at core set)) row % 2 ≡ 0)
        core.matrix.rows [] (λ i lt. even_from (is_in (columns_at core set))
        (get_or core.matrix.rows i [])
        (row_parities (columns_at core set) set none same i lt ∙ ⊎_elim (row_even i lt)
        (λ e. ap (λ cs. total false bool_xor (is_in set) (map (place core) cs))
        (outside_none (flagged core.known) (get_or core.matrix.rows i []) e))
        (true_or_false (is_open core (get_or core.matrix.rows i [])))));
  }
    where
      below_all : (i : ℕ) → is_in set i ≡ true → i < length (unknown_columns core)
      below_all = in_all (λ i. i < length (unknown_columns core)) set null.below

      none : (c : ℕ) → flagged core.known c ≡ true → is_in (columns_at core set) c ≡ false
      none c e = false_from_ne_true (is_in (columns_at core set) c)
          (λ f. let r = in_map (column core) set c f in
          true≢false (sym e ∙ ap (flagged core.known) (sym r.2)
          ∙ (column_is core r.0 (below_all r.0 r.1)).0))

      same : IsSameSet (columns_at core set) set
      same c lt e = same_test _ _
          (λ f. let r = in_map (column core) set c f in subst (λ i. is_in set i ≡ true)
          (sym (column_is core r.0 (below_all r.0 r.1)).2 ∙ ap (place core) r.2) r.1)
          (λ f. subst (λ d. is_in (columns_at core set) d ≡ true) (column_place core c lt e)
          (map_in (column core) set (place core c) f))

      row_even : (i : ℕ) → i < length core.matrix.rows → is_open core (get_or core.matrix.rows i [])
          ≡ true → total false bool_xor (is_in set)
          (map (place core) (outside (flagged core.known) (get_or core.matrix.rows i []))) ≡ false
      row_even i lt e = even_to (is_in set)
          (map (place core) (outside (flagged core.known) (get_or core.matrix.rows i [])))
          (all_kept (λ row. count_by (is_in set)
          (map (place core) (outside (flagged core.known) row)) % 2 ≡ 0) (is_open core) []
          core.matrix.rows
          (all_mapped (λ (q : Equation). count_by (is_in set) q.unknowns % 2 ≡ 0) (equation_of core)
          (filter (is_open core) core.matrix.rows)
          (all_mapped (λ row. count_by (is_in set) row % 2 ≡ 0) (λ (q : Equation). q.unknowns)
          (residue core).equations null.even)) i lt e)

  -- the first null set gives the first null word
  pub first_null : (set : List ℕ) → IsFirstNullSet (residue core) set
      → IsFirstNullWord core.matrix (positions arrivals) (columns_at core set)
  first_null set first = record { null = from_null_set set first.null; least = least }
    where
      column_most : (i j : ℕ) → i ≤ j → j < length (unknown_columns core)
          → column core i ≤ column core j
      column_most i j le lt = ⊎_elim (λ lt2. let z = column_less core i j lt2 lt in omega arith)
          (λ ge. let z : i ≡ j = le_antisymm le ge in let q = ap (column core) z in omega arith)
          (cases_lt i j)

      least : (other : List ℕ) → IsNullWord core.matrix (positions arrivals) other
          → last_of (columns_at core set) ≤ last_of other
      least other null =
          let c = last_of other in
          let c_in : is_in other c ≡ true = last_in other null.nonempty in
          let lt : c < core.matrix.n = in_all (λ d. d < core.matrix.n) other null.below c c_in in
          let e : flagged core.known c ≡ false = false_from_ne_true (flagged core.known c)
          (λ f. true≢false (sym c_in ∙ null_unknown other null c f)) in
          let le : last_of set ≤ place core c = subst (λ i. last_of set ≤ i)
          (last_map (place core) other null.nonempty) (first.least (map (place core) other)
          (to_null_set other null)) in
          subst (λ i. i ≤ c) (sym (last_map (column core) set first.null.nonempty))
          (subst (λ d. column core (last_of set) ≤ d) (column_place core c lt e)
          (column_most (last_of set) (place core c) le (place_below core c lt e)))

-- ---- the source

-- a word whose source symbols are those that are kept, and the values for the others, has this
-- source
source_is : (core : Decoder) (values word : List (List ℕ)) → core.matrix.k ≤ length word
    → ((c : ℕ) → c < core.matrix.k
    → symbol_at core.len word c ≡ completed core (symbol_at core.len values) c)
    → take core.matrix.k word ≡ source_of core values
source_is core values word le same = ext_get_or (zero_symbol core.len) (take core.matrix.k word)
    (source_of core values)
    (length-take-le core.matrix.k word le
    ∙ sym (length-map-range_with_len (completed core (symbol_at core.len values)) 0
    core.matrix.k))
    (λ c lt. let lt2 : c < core.matrix.k = rw (length-take-le core.matrix.k word le) at lt in
    get_or-take core.matrix.k word c (zero_symbol core.len) lt2 ∙ same c lt2
    ∙ sym (get_or-map-range_with_len (completed core (symbol_at core.len values)) 0 core.matrix.k c
    c (zero_symbol core.len) lt2 (zero-add c)))

-- the decoder knows the source exactly where the closure of what arrived holds it
pub source_held : (core : Decoder) (arrivals : List Arrival) → StandsFor core arrivals
    → HasAllSource core ↔ HoldsSource core.matrix arrivals
source_held core arrivals st =
    (λ all c lt. sym (st.known c) ∙ all c lt, λ all c lt. st.known c ∙ all c lt)

-- ---- the verdicts

-- where the decoder is clashed no word fits
pub none_fits : (core : Decoder) (arrivals : List Arrival) → StandsFor core arrivals
    → core.clashed ≡ true → (word : List (List ℕ)) → ¬ IsFitting core.matrix core.len arrivals word
none_fits core arrivals st clashed word h = st.contradicts clashed (symbol_at core.len word)
    (codeword_consistent core.matrix core.len arrivals word h.codeword h.fits)

-- the only solution of the residue has symbols of the length
pub values_long : (core : Decoder) (values : List (List ℕ))
    → IsAnswer (residue core) (answer.One values) → All (λ symbol. length symbol ≡ core.len) values
values_long core values a = All-from_get_or (λ symbol. length symbol ≡ core.len) values
    (zero_symbol core.len) (λ i lt. (a.solves.symbols i).long)

module _ (core : Decoder) (is : IsDecoder core) (arrivals : List Arrival)
    (st : StandsFor core arrivals) (ok : core.clashed ≡ false) where
  sizes : core.matrix.k ≤ core.matrix.n
  sizes = omega (arith, is.code.shape.count)

  -- where all of the source is known, the kept symbols are the one word that fits
  pub peeled_source : HasAllSource core → IsSource core.matrix core.len arrivals (source_of core [])
  peeled_source all = record {
    word = core.symbols;
    fits = record {
      codeword = record {
        count = is.symbols;
        symbols = is.bytes;
        rows = All-from_get_or (SumsToZero core.len (kept core)) core.matrix.rows [] (λ i lt.
            (st.agrees ok).rows i [] lt (λ k d lt2. sym (st.known _)
            ∙ full _ (row_below core.matrix is.code.shape i lt k d lt2)));
      };
      fits = (st.agrees ok).fits;
    };
    only = λ other h. source_is core [] other (omega (arith, sizes, h.codeword.count)) (λ c lt.
        sym (kept_of_codeword core arrivals other st h.codeword h.fits c (all c lt))
        ∙ sym (completed_known core (symbol_at core.len []) c (all c lt)));
  }
    where
      full : (c : ℕ) → c < core.matrix.n → flagged core.known c ≡ true
      full c lt = st.known c ∙ closure_full core.matrix is.code.shape (positions arrivals)
          (λ b lt2. sym (st.known b) ∙ all b lt2) c lt

  -- where nothing solves the residue no word fits
  pub none_solves : IsAnswer (residue core) answer.Clash → (word : List (List ℕ))
      → ¬ IsFitting core.matrix core.len arrivals word
  none_solves unsolved word h = unsolved (open_symbols core word)
      (to_solution core is arrivals st ok word h)

  -- where several do, words of two sources fit, and the first null set gives the first null word
  pub two_fit : (set : List ℕ) → IsAnswer (residue core) (answer.Free set)
      → IsUndetermined core.matrix core.len arrivals × IsFirstNullWord core.matrix
      (positions arrivals) (columns_at core set)
  two_fit set a =
      let first = first_null core is arrivals st set a.1 in (
        two_of_null core.matrix is.code.shape core.len arrivals (filled core a.0.0)
            (from_solution core is arrivals st ok a.0.0 a.0.1) (columns_at core set) first.null
            is.some,
        first,
      )

  -- where one does, a word fits, and no other
  module _ (values : List (List ℕ)) (a : IsAnswer (residue core) (answer.One values)) where
    abbrev word : List (List ℕ)
    word = filled core (symbol_at core.len values)

    word_fits : IsFitting core.matrix core.len arrivals word
    word_fits = from_solution core is arrivals st ok (symbol_at core.len values) a.solves

    -- it is the only word that fits
    only_word : (other : List (List ℕ)) → IsFitting core.matrix core.len arrivals other
        → other ≡ word
    only_word other h = back core is arrivals st ok other h (symbol_at core.len values) a.solves
        (λ i lt. a.only (open_symbols core other) (to_solution core is arrivals st ok other h) i lt)

    -- its source is that of the symbols that are kept and the values
    pub solved_source : IsSource core.matrix core.len arrivals (source_of core values)
    solved_source = record {
      word = word;
      fits = word_fits;
      only = λ other h. ap (take core.matrix.k) (only_word other h)
          ∙ source_is core values word (omega (arith, sizes, word_fits.codeword.count))
          (λ c lt. get_or-map-range_with_len (completed core (symbol_at core.len values)) 0
          core.matrix.n c c (zero_symbol core.len) (omega (arith, sizes)) (zero-add c));
    }
