-- A decoder with one arrival more.
use mathlib.Core.Path.{fun_ext}
use Rattle.std.proofs.Common.{◌≡◌, ◌↔◌, ℕ, zero, suc, ◌<◌, ⊎_elim, IsTrue, Bool, true, false, not}
use Rattle.std.proofs.Common.{cond, ◌||◌, ◌&&◌, ◌==◌, List, [], ◌∷◌, ◌++◌, length, get_or, set}
use Rattle.std.proofs.Common.{replicate, All, refl, sym, ap, ◌∙◌, subst, arith, true≢false, eq-eqb}
use Rattle.std.proofs.Common.{eqb-true}
use Rattle.std.proofs.lemmas.Bool.{ne_eqb}
use Rattle.std.proofs.lemmas.List.Elements.{All-push, All-from_get_or, All-replicate}
use Rattle.std.proofs.lemmas.List.{length-replicate}
use Rattle.fec_base.specs.Symbol.{IsSymbol, xor, zero_symbol}
use Rattle.sparse_rows.specs.Matrix.{Matrix, IsCode, row_of}
use Rattle.sparse_rows.specs.Codeword.{symbol_at, Arrival, positions, SumsToZero, SumsToZeroWithin}
use Rattle.sparse_rows.specs.Closure.{Set, flagged, HasSameMembers, members, outside, adding, round}
use Rattle.sparse_rows.specs.Closure.{closure}
use Rattle.peeling.specs.Agree.{Agree}
use Rattle.peeling.specs.Decoder.{Decoder}
use Rattle.sparse_rows.specs.Determined.{IsConsistent}
use Rattle.peeling.specs.Stands.{StandsFor, Receives}
use Rattle.peeling.specs.Peeled.{IsLaid, IsPeeled}
use Rattle.peeling.specs.Worklist.{NewRowsHold}
use Rattle.sparse_rows.proofs.Closed.{row_within}
use Rattle.peeling.proofs.UnderWay.{none_outside}
use Rattle.sparse_rows.proofs.Sets.{any_from, or_cases, or_first, or_second, rounds_hold}
use Rattle.sparse_rows.proofs.Sets.{true_or_false}
use Rattle.peeling.proofs.Flags.{flagged_set, flagged_none}
use Rattle.peeling.proofs.Closure.{closure_none}
use Rattle.peeling.proofs.Laid.{keeping, symbols_put, zeros_at}
use Rattle.sparse_rows.proofs.Planes.{symbol_at_is, zero_is_symbol}
use Rattle.peeling.proofs.Peeled.{peeled_all}
use Rattle.peeling.proofs.Arrivals.{positions_push, closure_adding, closure_repeat, fresh_repeat}
use Rattle.peeling.proofs.Arrivals.{fresh_is, consistent_agree, consistent_before, consistent_at}
use Rattle.peeling.proofs.Arrivals.{sums_agree}

-- a decoder by its parts
abbrev pub laid_decoder : Matrix → ℕ → List Bool → List Bool → List (List ℕ) → Bool → List ℕ
    → Decoder
laid_decoder m len arrived known symbols clashed new =
    record {
      matrix = m;
      len = len;
      arrived = arrived;
      known = known;
      symbols = symbols;
      clashed = clashed;
      fresh = new;
    }

-- where no clash is seen, there was none before and none is new
no_clash_before : (old b : Bool) → (old || not b) ≡ false → old ≡ false
no_clash_before true b e = e
no_clash_before false b e = refl

no_clash_now : (old b : Bool) → (old || not b) ≡ false → b ≡ true
no_clash_now true b e = absurd (true≢false e)
no_clash_now false true e = refl
no_clash_now false false e = absurd (true≢false e)

module _ (m : Matrix) (code : IsCode m) (len : ℕ) (arrived known : List Bool)
    (symbols : List (List ℕ)) (clashed : Bool) (old_fresh : List ℕ) (e : ℕ) (bytes : List ℕ)
    (flags : length arrived ≡ m.n) (kept_is : IsLaid m.n len known symbols)
    (closed : HasSameMembers (flagged known) (closure m (flagged arrived))) (below : e < m.n)
    (is : IsSymbol len bytes) where
  abbrev old : Decoder
  old = laid_decoder m len arrived known symbols clashed old_fresh

  with_flag : flagged (set arrived e true) ≡ adding e (flagged arrived)
  with_flag = flagged_set arrived e (rw flags below)

  with_known : flagged (set known e true) ≡ adding e (flagged known)
  with_known = flagged_set known e (rw kept_is.flags below)

  -- the flags with one arrival more
  arrived_push : (arrivals : List Arrival) → StandsFor old arrivals
      → HasSameMembers (flagged (set arrived e true)) (positions (arrivals ++ (e, bytes) ∷ []))
  arrived_push arrivals st c = ap (λ s. s c) with_flag ∙ ap (λ b. b || (e == c)) (st.arrived c)
      ∙ sym (ap (λ s. s c) (positions_push arrivals e bytes))

  -- ---- a repeat

  module _ (there : flagged known e ≡ true) (same : Bool) (same_is : IsTrue same
      ↔ (bytes ≡ symbol_at len symbols e)) where
    inside : closure m (flagged arrived) e ≡ true
    inside = sym (closed e) ∙ there

    pub repeat_closed : HasSameMembers (flagged known) (closure m (flagged (set arrived e true)))
    repeat_closed c = closed c ∙ ap (λ s. s c)
        (sym (ap (closure m) with_flag ∙ closure_repeat m code.shape (flagged arrived) e inside))

    stays : (arrivals : List Arrival) → StandsFor old arrivals
        → closure m (positions (arrivals ++ (e, bytes) ∷ [])) ≡ closure m (positions arrivals)
    stays arrivals st = ap (closure m) (positions_push arrivals e bytes)
        ∙ closure_repeat m code.shape (positions arrivals) e (sym (st.known e) ∙ there)

    repeat_stands : (arrivals : List Arrival) → StandsFor old arrivals
        → StandsFor (laid_decoder m len (set arrived e true) known symbols (clashed || not same) [])
        (arrivals ++ (e, bytes) ∷ [])
    repeat_stands arrivals st = record {
      arrived = arrived_push arrivals st;
      known = λ c. st.known c ∙ ap (λ s. s c) (sym (stays arrivals st));
      agrees = λ ok.
          let h = st.agrees (no_clash_before clashed same ok) in
          record {
            symbols = h.symbols;
            fits = All-push (λ (a : Arrival). symbol_at len symbols a.0 ≡ a.1) arrivals (e, bytes)
                h.fits (sym (same_is.0 (no_clash_now clashed same ok)));
            rows = subst (λ (s : Set). SumsToZeroWithin m len s (symbol_at len symbols))
                (sym (stays arrivals st)) h.rows;
          };
      contradicts = λ clash z h.
          let before = consistent_before m len arrivals e bytes z h in
          ⊎_elim (λ was. st.contradicts was z before)
          (λ was. ⊎_elim
          (λ (again : same ≡ true). absurd (true≢false (sym clash ∙ ap (λ b. b || not same) was
          ∙ ap not again)))
          (λ (other : same ≡ false). absurd
          (true≢false (sym (same_is.1 (sym (consistent_at m len arrivals e bytes z h)
          ∙ sym (consistent_agree m len arrivals (symbol_at len symbols) z (st.agrees was) before e
          (sym (st.known e) ∙ there)))) ∙ other)))
          (true_or_false same))
          (true_or_false clashed);
    }

    pub repeat_received : Receives old (laid_decoder m len (set arrived e true) known symbols
        (clashed || not same) []) e bytes
    repeat_received = record {
      stands = repeat_stands;
      code = refl;
      len = refl;
      arrived = refl;
      known = repeat_closed;
      fresh_is = sym (fresh_repeat m code.shape (flagged arrived) e inside);
      keeps = λ c f. refl;
      own = λ missing. absurd (true≢false (sym there ∙ missing));
      repeat = λ _. refl;
      stays_clashed = λ was. ap (λ b. b || not same) was;
    }

  -- ---- a position that wasn't known

  module _ (missing : flagged known e ≡ false) (start : List (List ℕ))
      (start_is : start ≡ set symbols e bytes) (more : List Bool) (next : List (List ℕ))
      (more_is : IsLaid m.n len more next) (peeled : IsPeeled m len (flagged (set known e true))
      (symbol_at len start) (flagged more) (symbol_at len next))
      (rests : HasSameMembers (round m (flagged more)) (flagged more)) (holds : Bool)
      (holds_is : IsTrue holds ↔ NewRowsHold m len (flagged known) (flagged more)
      (symbol_at len next)) where
    begun : symbol_at len start ≡ keeping e bytes (symbol_at len symbols)
    begun = ap (symbol_at len) start_is ∙ symbols_put len symbols bytes e (rw kept_is.count below)

    -- what is known is the closure
    pub new_closed : HasSameMembers (flagged more) (closure m (flagged (set arrived e true)))
    new_closed c = peeled_all m len (flagged (set known e true)) (flagged more)
        (symbol_at len start) (symbol_at len next) peeled rests c
        ∙ ap (λ s. closure m s c) (with_known ∙ ap (adding e) (fun_ext closed))
        ∙ closure_adding m code.shape (flagged arrived) e c
        ∙ ap (λ s. closure m s c) (sym with_flag)

    -- earlier symbols stay, and the position has the bytes
    earlier : Agree (flagged known) (symbol_at len symbols) (symbol_at len next)
    earlier c f =
        sym (ap (λ z. z c) begun ∙ ap (λ b. cond b bytes (symbol_at len symbols c))
        (ne_eqb e c (λ z. true≢false (sym f ∙ ap (flagged known) (sym z) ∙ missing))))
        ∙ peeled.keeps c (ap (λ s. s c) with_known ∙ or_first (flagged known c) (e == c) f)

    own : symbol_at len next e ≡ bytes
    own = sym (peeled.keeps e (ap (λ s. s e) with_known ∙ or_second (flagged known e) (e == e)
        (eq-eqb e e refl)))
        ∙ ap (λ z. z e) begun ∙ ap (λ b. cond b bytes (symbol_at len symbols e)) (eq-eqb e e refl)

    -- where the rows that were known sum to zero, the new ones decide whether all do
    module _ (before : SumsToZeroWithin m len (flagged known) (symbol_at len symbols)) where
      pub all_hold : holds ≡ true → SumsToZeroWithin m len (flagged more) (symbol_at len next)
      all_hold ok = All-from_get_or (λ row. All (λ c. flagged more c ≡ true) row
          → SumsToZero len (symbol_at len next) row) m.rows []
          (λ i lt all. by_case i lt all (outside (flagged known) (row_of m i)) refl)
        where
          by_case : (i : ℕ) → i < length m.rows → All (λ c. flagged more c ≡ true) (row_of m i)
              → (left : List ℕ) → outside (flagged known) (row_of m i) ≡ left
              → SumsToZero len (symbol_at len next) (row_of m i)
          by_case i lt all [] none =
              let whole = row_within (flagged known) (row_of m i) none in
              sym (sums_agree len (symbol_at len symbols) (symbol_at len next) (row_of m i)
              (λ j b lt2. earlier _ (whole j b lt2))) ∙ before i [] lt whole
          by_case i lt all (c ∷ cs) some =
              holds_is.0 ok i lt (none_outside (flagged more) (row_of m i) all) (λ none. cc)

      pub holds_all : SumsToZeroWithin m len (flagged more) (symbol_at len next) → holds ≡ true
      holds_all all = holds_is.1 (λ i lt none some. all i [] lt
          (row_within (flagged more) (row_of m i) none))

    module _ (arrivals : List Arrival) (st : StandsFor old arrivals) where
      were : clashed ≡ false → SumsToZeroWithin m len (flagged known) (symbol_at len symbols)
      were was = subst (λ (s : Set). SumsToZeroWithin m len s (symbol_at len symbols))
          (sym (fun_ext st.known)) (st.agrees was).rows

      grown : closure m (flagged (set arrived e true)) ≡ closure m
          (positions (arrivals ++ (e, bytes) ∷ []))
      grown = ap (closure m) (fun_ext (arrived_push arrivals st))

      known_is : HasSameMembers (flagged more) (closure m (positions (arrivals ++ (e, bytes) ∷ [])))
      known_is c = new_closed c ∙ ap (λ s. s c) grown

      consistent : clashed ≡ false → holds ≡ true → IsConsistent m len (arrivals ++ (e, bytes) ∷ [])
          (symbol_at len next)
      consistent was ok =
          let h = st.agrees was in
          record {
            symbols = symbol_at_is len next more_is.each;
            fits = All-push (λ (a : Arrival). symbol_at len next a.0 ≡ a.1) arrivals (e, bytes)
                (All-from_get_or (λ (a : Arrival). symbol_at len next a.0 ≡ a.1) arrivals (e, bytes)
                (λ i lt.
                sym (earlier _ (st.known _ ∙ rounds_hold m m.n (positions arrivals) _
                (any_from (λ (a : Arrival). a.0 == (get_or arrivals i (e, bytes)).0) (e, bytes)
                arrivals i lt (eq-eqb _ _ refl)))) ∙ h.fits i (e, bytes) lt)) own;
            rows = subst (λ (s : Set). SumsToZeroWithin m len s (symbol_at len next))
                (fun_ext known_is) (all_hold (were was) ok);
          }

      -- each consistent assignment has the symbols that were rebuilt
      agrees : clashed ≡ false → (z : ℕ → List ℕ) → IsConsistent m len (arrivals ++ (e, bytes) ∷ [])
          z → Agree (flagged more) (symbol_at len next) z
      agrees was z h = peeled.forced z h.symbols
          (λ i d lt all. h.rows i d lt (λ j b lt2. sym (known_is _)
          ∙ peeled_all m len (flagged (set known e true)) (flagged more) (symbol_at len start)
          (symbol_at len next) peeled rests _ ∙ all j b lt2)) first
        where
          first : Agree (flagged (set known e true)) (symbol_at len start) z
          first c f = ⊎_elim
              (λ g. ap (λ w. w c) begun ∙ ap (λ b. cond b bytes (symbol_at len symbols c))
              (ne_eqb e c (λ w. true≢false (sym g ∙ ap (flagged known) (sym w) ∙ missing)))
              ∙ consistent_agree m len arrivals (symbol_at len symbols) z (st.agrees was)
              (consistent_before m len arrivals e bytes z h) c (sym (st.known c) ∙ g))
              (λ g. subst (λ d. symbol_at len start d ≡ z d) (eqb-true e c g) (ap (λ w. w e) begun
              ∙ ap (λ b. cond b bytes (symbol_at len symbols e)) (eq-eqb e e refl)
              ∙ sym (consistent_at m len arrivals e bytes z h)))
              (or_cases (flagged known c) (e == c) (sym (ap (λ s. s c) with_known) ∙ f))

      new_stands : (new_fresh : List ℕ)
          → StandsFor (laid_decoder m len (set arrived e true) more next (clashed || not holds)
          new_fresh) (arrivals ++ (e, bytes) ∷ [])
      new_stands new_fresh = record {
        arrived = arrived_push arrivals st;
        known = known_is;
        agrees = λ ok. consistent (no_clash_before clashed holds ok)
            (no_clash_now clashed holds ok);
        contradicts = λ clash z h. ⊎_elim
            (λ was. st.contradicts was z (consistent_before m len arrivals e bytes z h))
            (λ was. ⊎_elim
            (λ (ok : holds ≡ true). absurd (true≢false (sym clash ∙ ap (λ b. b || not holds) was
            ∙ ap not ok)))
            (λ (fails : holds ≡ false). absurd
            (true≢false (sym (holds_all (were was) (sums z h (agrees was z h))) ∙ fails)))
            (true_or_false holds))
            (true_or_false clashed);
      }
        where
          sums : (z : ℕ → List ℕ) → IsConsistent m len (arrivals ++ (e, bytes) ∷ []) z
              → Agree (flagged more) (symbol_at len next) z
              → SumsToZeroWithin m len (flagged more) (symbol_at len next)
          sums z h agree = λ i d lt all. sums_agree len (symbol_at len next) z _
              (λ j b lt2. agree _ (all j b lt2)) ∙ h.rows i d lt (λ j b lt2. sym (known_is _)
              ∙ all j b lt2)

    pub new_received : (new_fresh : List ℕ)
        → new_fresh ≡ members (length more)
        (λ c. flagged more c && not (flagged (set known e true) c))
        → Receives old (laid_decoder m len (set arrived e true) more next (clashed || not holds)
        new_fresh) e bytes
    new_received new_fresh listed = record {
      stands = λ arrivals st. new_stands arrivals st new_fresh;
      code = refl;
      len = refl;
      arrived = refl;
      known = new_closed;
      fresh_is = listed ∙ ap (λ n. members n
          (λ c. flagged more c && not (flagged (set known e true) c))) more_is.flags
          ∙ fresh_is m (flagged arrived) (flagged known) (flagged more) (flagged (set known e true))
          e closed (λ c. new_closed c ∙ ap (λ s. closure m s c) with_flag)
          (λ c. ap (λ s. s c) with_known);
      keeps = earlier;
      own = λ _. own;
      repeat = λ there. absurd (true≢false (sym there ∙ missing));
      stays_clashed = λ was. ap (λ b. b || not holds) was;
    }

-- ---- the first decoder

zero_sums : (len : ℕ) (row : List ℕ) → SumsToZero len (λ c. zero_symbol len) row
zero_sums len [] = refl
zero_sums len (c ∷ row) = ap (xor (zero_symbol len)) (zero_sums len row) ∙ twice len
  where
    twice : (n : ℕ) → xor (zero_symbol n) (zero_symbol n) ≡ zero_symbol n
    twice zero = refl
    twice (suc n) = ap (λ z. 0 ∷ z) (twice n)

-- zero symbols, and no flag
pub empty_laid : (n len : ℕ) → IsLaid n len (replicate n false) (replicate n (zero_symbol len))
empty_laid n len = record {
  flags = length-replicate n false;
  count = length-replicate n (zero_symbol len);
  each = All-replicate (IsSymbol len) n (zero_symbol len) (zero_is_symbol len);
  zero = λ c _. zeros_at len n c;
}

-- nothing is known
pub empty_closed : (m : Matrix) → IsCode m → HasSameMembers (flagged (replicate m.n false))
    (closure m (flagged (replicate m.n false)))
empty_closed m code c = ap (λ s. s c) (flagged_none m.n)
    ∙ sym (ap (λ s. closure m s c) (flagged_none m.n) ∙ closure_none m code.shape c)

-- it stands for no arrivals
pub empty_stands : (m : Matrix) → IsCode m → (len : ℕ) (new : List ℕ)
    → StandsFor (laid_decoder m len (replicate m.n false) (replicate m.n false)
    (replicate m.n (zero_symbol len)) false new) []
empty_stands m code len new = record {
  arrived = λ c. ap (λ s. s c) (flagged_none m.n);
  known = λ c. ap (λ s. s c) (flagged_none m.n) ∙ sym (closure_none m code.shape c);
  agrees = λ _. record {
    symbols = symbol_at_is len (replicate m.n (zero_symbol len)) (empty_laid m.n len).each;
    fits = λ k d lt. absurd (omega (arith, lt));
    rows = λ k d lt all. subst (λ z. SumsToZero len z (get_or m.rows k d))
        (sym (fun_ext (zeros_at len m.n))) (zero_sums len (get_or m.rows k d));
  };
  contradicts = λ clash. absurd (true≢false (sym clash));
}
