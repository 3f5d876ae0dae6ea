-- The code has the dimension k: k positions at the least settle a block at which nothing arrived.
use Rattle.std.proofs.Common.{⊎_elim, ◌≡◌, ℕ, zero, suc, ◌+◌, ◌<◌, ◌≤◌, Bool, true, false, not, ◌==◌}
use Rattle.std.proofs.Common.{◌++◌, cond, List, [], ◌∷◌, length, map, get_or}
use Rattle.std.proofs.Common.{refl, sym, ap, ◌∙◌, subst, arith, eqb-true, eq-eqb, true≢false}
use Rattle.std.proofs.Common.{length-append, zero-add, zero-le, le_refl}
use Rattle.std.specs.List.{range_with_len}
use Rattle.std.proofs.lemmas.Bool.{false_from_ne_true, ne_eqb}
use Rattle.std.proofs.lemmas.List.{get_or-take}
use Rattle.std.proofs.lemmas.List.Elements.{All-from_get_or}
use Rattle.std.proofs.lemmas.List.Folds.{list_any-append}
use Rattle.std.proofs.lemmas.List.FromFn.{get_or-map-range_with_len, length-map-range_with_len}
use Rattle.std.proofs.lemmas.List.FromFn.{get_or-range_with_len, length-range_with_len}
use Rattle.fec_base.specs.Symbol.{IsSymbol, zero_symbol}
use Rattle.fec_base.proofs.SymbolBytes.{byte, byte_zero}
use Rattle.sparse_rows.specs.Matrix.{Matrix, HasShape, is_in}
use Rattle.sparse_rows.specs.Codeword.{Arrival, Fits, IsEncoded, positions, symbol_at}
use Rattle.sparse_rows.specs.Closure.{Set, adding, members}
use Rattle.sparse_rows.specs.Laws.{SourceHasCodeword}
use Rattle.sparse_rows.proofs.Null.{members_in}
use Rattle.sparse_rows.proofs.Planes.{zero_is_symbol}
use Rattle.sparse_rows.proofs.Sets.{any_from, or_cases, or_first, or_second}
use Rattle.null_witness.proofs.Bits.{differ_symbol}
use Rattle.null_witness.proofs.Determined.{null_of_differ, one_first, one_is_symbol}
use Rattle.null_witness.proofs.Determined.{one_symbol}
use Rattle.null_witness.proofs.Subsets.{null_subset}
use Rattle.repair_request.specs.Settling.{AreInnovative, IsDeficiency, IsInnovative, Settles}
use Rattle.repair_request.specs.Settling.{together}
use Rattle.repair_request.proofs.Late.{late_list, late_list_is, no_fewer}
use Rattle.repair_request.proofs.Meaning.{missing_source}
use Rattle.repair_request.proofs.Turns.{deficiency, lowers}

-- ---- a codeword that is zero before a source column and not at it

module _ (m : Matrix) (shape : HasShape m) (encodes : SourceHasCodeword) (e : ℕ) (lt : e < m.k) where
  unit : ℕ → List ℕ
  unit c = cond (c == e) (one_symbol 1) (zero_symbol 1)

  unit_is : (c : ℕ) → IsSymbol 1 (unit c)
  unfolding unit
  unit_is c = by_case (c == e)
    where
      by_case : (b : Bool) → IsSymbol 1 (cond b (one_symbol 1) (zero_symbol 1))
      by_case true = one_is_symbol 1
      by_case false = zero_is_symbol 1

  unit_at : unit e ≡ one_symbol 1
  unfolding unit
  unit_at = rw (eq-eqb e e refl) refl

  unit_before : (c : ℕ) → c < e → unit c ≡ zero_symbol 1
  unfolding unit
  unit_before c less = rw (ne_eqb c e (λ same. omega (arith, less))) refl

  -- the codeword of a source that a function gives
  word_of : (f : ℕ → List ℕ) → ((c : ℕ) → IsSymbol 1 (f c))
      → (word : List (List ℕ)) × IsEncoded m 1 (map f (range_with_len 0 m.k)) word
  word_of f are = encodes m 1 (map f (range_with_len 0 m.k)) shape (length-map-range_with_len f 0 m.k)
      (All-from_get_or (IsSymbol 1) (map f (range_with_len 0 m.k)) (zero_symbol 1) (λ i less.
      let less2 : i < m.k = rw length-map-range_with_len at less in
      rw (get_or-map-range_with_len f 0 m.k i i (zero_symbol 1) less2 (zero-add i)) (are i)))

  word_at : (f : ℕ → List ℕ) (are : (c : ℕ) → IsSymbol 1 (f c)) (c : ℕ) → c < m.k
      → symbol_at 1 (word_of f are).0 c ≡ f c
  word_at f are c less = sym (get_or-take m.k (word_of f are).0 c (zero_symbol 1) less)
      ∙ ap (λ (w : List (List ℕ)). get_or w c (zero_symbol 1)) (word_of f are).1.source_is
      ∙ get_or-map-range_with_len f 0 m.k c c (zero_symbol 1) less (zero-add c)

  zero_of : ℕ → List ℕ
  zero_of c = zero_symbol 1

  zero_of_is : (c : ℕ) → IsSymbol 1 (zero_of c)
  unfolding zero_of
  zero_of_is c = zero_is_symbol 1

  zero_word : List (List ℕ)
  zero_word = (word_of zero_of zero_of_is).0

  unit_word : List (List ℕ)
  unit_word = (word_of unit unit_is).0

  abbrev pair : ℕ → Arrival
  pair c = (c, zero_symbol 1)

  -- both fit zeros before the column
  before : List Arrival
  before = map pair (range_with_len 0 e)

  before_at : (c : ℕ) → c < e → positions before c ≡ true
  unfolding before
  before_at c less = answers_held (range_with_len 0 e) c (any_from (λ d. d == c) 0
      (range_with_len 0 e) c (rw length-range_with_len less)
      (eq-eqb _ _ (get_or-range_with_len 0 e c 0 less ∙ zero-add c)))
    where
      answers_held : (cs : List ℕ) (c : ℕ) → is_in cs c ≡ true
          → positions (map pair cs) c ≡ true
      answers_held [] c f = absurd (cc)
      answers_held (d ∷ cs) c f = ⊎_elim (λ g. or_first (d == c) _ g)
          (λ g. or_second (d == c) _ (answers_held cs c g)) (or_cases (d == c) _ f)

  before_fit : (x : ℕ → List ℕ) → ((c : ℕ) → c < e → x c ≡ zero_symbol 1) → Fits before x
  unfolding before
  before_fit x zero_before = All-from_get_or (λ (a : Arrival). x a.0 ≡ a.1) before
      (pair 0) (λ i less.
      let less2 : i < e = rw length-map-range_with_len at less in
      let is : get_or (map pair (range_with_len 0 e)) i (pair 0) ≡ pair i =
      get_or-map-range_with_len pair 0 e i i (pair 0) less2 (zero-add i) in
      ap (λ (a : Arrival). x a.0) is ∙ zero_before i less2 ∙ ap (λ (a : Arrival). a.1) (sym is))

  -- so some null word of the positions before it holds it
  pub unit_null : (s : Set) → ((c : ℕ) → s c ≡ true → c < e) → IsInnovative m s e
  unfolding zero_word unit_word zero_of
  unit_null s within = ⊎_elim
      (λ j. let null = null_of_differ m shape 1 before zero_word unit_word
      record {
        codeword = (word_of zero_of zero_of_is).1.codeword;
        fits = before_fit (symbol_at 1 zero_word)
            (λ c less. word_at zero_of zero_of_is c (omega (arith, less, lt)));
      }
      record {
        codeword = (word_of unit unit_is).1.codeword;
        fits = before_fit (symbol_at 1 unit_word)
            (λ c less. word_at unit unit_is c (omega (arith, less, lt)) ∙ unit_before c less);
      }
      e (omega (arith, lt, shape.count)) j.0 j.2 in (
        null.0,
        null_subset m s (positions before) null.0 (λ c f. before_at c (within c f)) null.1,
        null.2,
      ))
      (λ same. absurd (one_differs (sym (word_at zero_of zero_of_is e lt) ∙ same
      ∙ word_at unit unit_is e lt ∙ unit_at)))
      (differ_symbol 1 (symbol_at 1 zero_word e) (symbol_at 1 unit_word e)
      (subst (IsSymbol 1) (sym (word_at zero_of zero_of_is e lt)) (zero_of_is e))
      (subst (IsSymbol 1) (sym (word_at unit unit_is e lt)) (unit_is e)))
    where
      one_differs : zero_symbol 1 ≡ one_symbol 1 → ⊥
      one_differs same =
          let z : ◌≡◌ {A = ℕ} 1 0 = sym (one_first 1 (le_refl 1)) ∙ ap (byte 0) (sym same)
          ∙ byte_zero 1 0 in omega arith

-- ---- the source columns are innovative, one after the other

sources_innovative : (m : Matrix) → HasShape m → SourceHasCodeword → (i e : ℕ) (s : Set)
    → ((c : ℕ) → s c ≡ true → c < e) → e + i ≡ m.k → AreInnovative m s (range_with_len e i)
sources_innovative m shape encodes zero e s within count = tt
sources_innovative m shape encodes (suc i) e s within count = (
  unit_null m shape encodes e (omega arith) s within,
  sources_innovative m shape encodes i (e + 1) (adding e s)
      (λ c f. ⊎_elim (λ g. let less = within c g in omega (arith, less))
      (λ g. let same : e ≡ c = eqb-true e c g in omega (arith, same))
      (or_cases (s c) (e == c) f)) (omega arith),
)

-- a list of innovative positions isn't longer than the deficiency
innovative_few : (m : Matrix) (s : Set) (request : List ℕ) → AreInnovative m s request
    → length request ≤ length (late_list m s)
innovative_few m s [] each = zero-le
innovative_few m s (e ∷ request) each =
    let rest = innovative_few m (adding e s) request each.1 in
    let step = lowers m s e (length (late_list m s)) (length (late_list m (adding e s)))
    (deficiency m s) (deficiency m (adding e s)) each.0 in omega arith

-- what arrived and what is needed are k positions at the least
pub received_and_needed : (m : Matrix) (s : Set) (count : ℕ) → HasShape m → SourceHasCodeword
    → IsDeficiency m s count → m.k ≤ length (members m.n s) + count
received_and_needed m s count shape encodes d =
    let all : ℕ = length (late_list m (λ c. false)) in
    let some : length (range_with_len 0 m.k) ≤ all = innovative_few m (λ c. false)
    (range_with_len 0 m.k) (sources_innovative m shape encodes m.k 0 (λ c. false)
    (λ c f. absurd (true≢false (sym f))) (zero-add m.k)) in
    let most = no_fewer m (λ c. false) (members m.n s ++ d.enough.0) (late_list m (λ c. false))
    settles (late_list_is m (λ c. false)) in
    omega (
      arith,
      some,
      most,
      length-append (members m.n s) d.enough.0,
      length-range_with_len 0 m.k,
      d.enough.2,
    )
  where
    settles : Settles m (λ c. false) (members m.n s ++ d.enough.0)
    settles word null = d.enough.1 word record {
      rising = null.rising;
      below = null.below;
      nonempty = null.nonempty;
      even = null.even;
      outside = λ i z lt. apart (get_or word i z) (null.below i z lt) (null.outside i z lt);
    }
      where
        apart : (c : ℕ) → c < m.n → together (λ b. false) (members m.n s ++ d.enough.0) c ≡ false
            → together s d.enough.0 c ≡ false
        apart c lt f = false_from_ne_true _ (λ g. true≢false (sym (back g) ∙ f))
          where
            back : together s d.enough.0 c ≡ true
                → is_in (members m.n s ++ d.enough.0) c ≡ true
            back g = list_any-append (λ b. b == c) (members m.n s) d.enough.0
                ∙ ⊎_elim (λ h. or_first _ _ (members_in m.n s c lt h)) (λ h. or_second _ _ h)
                (or_cases (s c) _ g)

-- and no more are needed than source positions are missing
pub needed_at_most : (m : Matrix) (s : Set) (count : ℕ) → HasShape m → IsDeficiency m s count
    → count ≤ length (members m.k (λ c. not (s c)))
needed_at_most m s count shape d =
    d.least (members m.k (λ c. not (s c))) (missing_source m s shape)
