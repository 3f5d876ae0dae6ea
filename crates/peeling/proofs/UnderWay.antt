-- A row sees a known column: what a worklist of peeling keeps.
use mathlib.Core.Path.{fun_ext}
use Rattle.std.proofs.Common.{◌≡◌, ◌≢◌, ◌↔◌, ℕ, ◌<◌, ⊎_elim, IsTrue, Bool, true, false, not, cond}
use Rattle.std.proofs.Common.{◌||◌, ◌&&◌, ◌==◌, List, [], ◌∷◌, length, filter, All, refl, sym, ap}
use Rattle.std.proofs.Common.{ap₂, ◌∙◌, subst, true≢false, eqb-true, eq-eqb, bit_xor}
use Rattle.std.proofs.lemmas.Bool.{ne_eqb}
use Rattle.std.proofs.lemmas.List.Elements.{All-head, All-tail}
use Rattle.fec_base.specs.Symbol.{xor_sum, zero_symbol}
use Rattle.sparse_rows.specs.Matrix.{Matrix, HasShape, row_of, is_in}
use Rattle.sparse_rows.specs.Codeword.{IsAssignment, SumsToZero}
use Rattle.sparse_rows.specs.Closure.{Set, IsWithin, HasSameMembers, outside, adding, round}
use Rattle.sparse_rows.proofs.Algebra.{total_split, right}
use Rattle.sparse_rows.specs.Totals.{total}
use Rattle.fec_base.proofs.SymbolBytes.{byte, byte_zero, same_bytes}
use Rattle.sparse_rows.proofs.Planes.{byte_laws, byte_sum, length_sum}
use Rattle.sparse_rows.proofs.Sets.{or_cases, or_first, or_second, or_none, outside_one}
use Rattle.sparse_rows.proofs.Sets.{outside_within, round_row, true_or_false}
use Rattle.sparse_rows.proofs.Closed.{row_within}
use Rattle.sparse_rows.proofs.Null.{in_filter}
use Rattle.peeling.specs.Worklist.{NewRowsHold, IsUnderWay}
use Rattle.peeling.proofs.Laid.{keeping}
use Rattle.peeling.proofs.Peeled.{peeled_none, peeled_on, peeled_row, rows_rest}
use Rattle.peeling.proofs.Arrivals.{sums_agree}

pub and_true : (b : Bool) → (b && true) ≡ b
and_true true = refl
and_true false = refl

-- row r has seen column c too
abbrev pub seeing : ℕ → ℕ → (ℕ → Set) → ℕ → Set
seeing r c seen i d = seen i d || ((r == i) && (c == d))

pub seeing_at : (r c : ℕ) (seen : ℕ → Set) → seeing r c seen r ≡ adding c (seen r)
seeing_at r c seen = fun_ext (λ d. ap (λ b. seen r d || (b && (c == d))) (eq-eqb r r refl))

pub seeing_other : (r c : ℕ) (seen : ℕ → Set) (i : ℕ) → (r == i) ≡ false
    → seeing r c seen i ≡ seen i
seeing_other r c seen i e = fun_ext (λ d. ap (λ b. seen i d || (b && (c == d))) e
    ∙ or_none (seen i d))

-- what holds of what each row has seen, where it holds of the row that sees one column more
pub each_row : (r c : ℕ) (seen : ℕ → Set) (P : ℕ → Set → Type 0) → ((i : ℕ) → P i (seen i))
    → P r (adding c (seen r)) → (i : ℕ) → P i (seeing r c seen i)
each_row r c seen P all one i = ⊎_elim
    (λ e. subst (λ j. P j (seeing r c seen j)) (eqb-true r i e)
    (subst (P r) (sym (seeing_at r c seen)) one))
    (λ e. subst (P i) (sym (seeing_other r c seen i e)) (all i))
    (true_or_false (r == i))

pub adding_within : (c : ℕ) (s t : Set) → IsWithin s t → t c ≡ true → IsWithin (adding c s) t
adding_within c s t h e d f = ⊎_elim (h d) (λ g. ap t (sym (eqb-true c d g)) ∙ e)
    (or_cases (s d) (c == d) f)

-- a set with nothing of a row outside keeps all of the row
pub filter_whole : (s : Set) (row : List ℕ) → outside s row ≡ [] → filter s row ≡ row
filter_whole s [] e = refl
filter_whole s (c ∷ row) e = by_case (s c) refl (filter_whole s row)
  where
    by_case : (b : Bool) → s c ≡ b → (outside s row ≡ [] → filter s row ≡ row)
        → filter s (c ∷ row) ≡ c ∷ row
    by_case true f ih = rw f (ap (λ z. c ∷ z) (ih (rw f at e)))
    by_case false f ih = let z : c ∷ outside s row ≡ [] = rw f at e in absurd (cc)

pub none_outside : (s : Set) (row : List ℕ) → All (λ c. s c ≡ true) row → outside s row ≡ []
none_outside s [] h = refl
none_outside s (c ∷ row) h = rw (All-head (λ d. s d ≡ true) c row h)
    (none_outside s row (All-tail (λ d. s d ≡ true) c row h))

-- the only column outside a set adds nothing to the row's sum where its symbol is zero
pub sum_without : (len : ℕ) (x : ℕ → List ℕ) → IsAssignment len x → (s : Set) (row : List ℕ) (d : ℕ)
    → outside s row ≡ d ∷ [] → x d ≡ zero_symbol len → xor_sum len x (filter s row) ≡ xor_sum len x
    row
sum_without len x is s row d one zero =
    same_bytes _ _ (length_sum len x (λ c. (is c).long) (filter s row)
    ∙ sym (length_sum len x (λ c. (is c).long) row)) (λ j.
    byte_sum len x (λ c. (is c).long) j (filter s row)
    ∙ sym (total_split 0 bit_xor byte_laws s (λ c. byte j (x c)) row
    ∙ ap (bit_xor (total 0 bit_xor (λ c. byte j (x c)) (filter s row)))
    (ap (total 0 bit_xor (λ c. byte j (x c))) one ∙ right 0 bit_xor byte_laws (byte j (x d))
    ∙ ap (byte j) zero ∙ byte_zero len j)
    ∙ right 0 bit_xor byte_laws (total 0 bit_xor (λ c. byte j (x c)) (filter s row)))
    ∙ sym (byte_sum len x (λ c. (is c).long) j row))

-- ---- a row sees a column

module _ (m : Matrix) (len : ℕ) (before base : Set) (x : ℕ → List ℕ) (seen : ℕ → Set) (known : Set)
    (y : ℕ → List ℕ) (holds : Bool) (h : IsUnderWay m len before base x seen known y holds)
    (r c : ℕ) (lt : r < length m.rows) (is_known : known c ≡ true) where
  abbrev others : Set
  others = adding c (seen r)

  others_known : IsWithin others known
  others_known = adding_within c (seen r) known (h.sees r) is_known

  saw_more : (i : ℕ) → IsWithin before (seeing r c seen i)
  saw_more = each_row r c seen (λ i s. IsWithin before s) h.saw (λ d f. or_first (seen r d) (c == d)
      (h.saw r d f))

  pub sees_more : (i : ℕ) → IsWithin (seeing r c seen i) known
  sees_more = each_row r c seen (λ i s. IsWithin s known) h.sees others_known

  -- with more than one column left, or one that is known
  pub sees_only : outside others (row_of m r) ≢ [] → ((d : ℕ) → outside others (row_of m r) ≡ d ∷ []
      → known d ≡ true) → IsUnderWay m len before base x (seeing r c seen) known y holds
  sees_only some single = record {
    peeled = h.peeled;
    saw = saw_more;
    sees = sees_more;
    single = λ i d lt2. each_row r c seen (λ j s. j < length m.rows
        → outside s (row_of m j) ≡ d ∷ [] → known d ≡ true) (λ j lt3. h.single j d lt3)
        (λ lt3. single d) i lt2;
    sums = λ ok i lt2. each_row r c seen (λ j s. j < length m.rows → outside s (row_of m j) ≡ []
        → outside before (row_of m j) ≢ [] → SumsToZero len y (row_of m j)) (h.sums ok)
        (λ lt3 none. absurd (some none)) i lt2;
    fails = h.fails;
  }

  -- with none left
  module _ (none : outside others (row_of m r) ≡ []) (zero : Bool) (zero_is : IsTrue zero
      ↔ (xor_sum len y (filter others (row_of m r)) ≡ zero_symbol len))
      (there : is_in (row_of m r) c ≡ true) (unseen : seen r c ≡ false) where
    whole : filter others (row_of m r) ≡ row_of m r
    whole = filter_whole others (row_of m r) none

    none_known : outside known (row_of m r) ≡ []
    none_known = outside_within others known others_known (row_of m r) ∙ ap (outside known) none

    some_before : outside before (row_of m r) ≢ []
    some_before e =
        let new : before c ≡ false = ⊎_elim (λ f. absurd (true≢false (sym (h.saw r c f) ∙ unseen)))
        (λ f. f) (true_or_false (before c)) in
        let held : is_in (outside before (row_of m r)) c ≡ true = in_filter (λ d. not (before d))
        (row_of m r) c there (ap not new) in
        true≢false (sym held ∙ ap (λ (row : List ℕ). is_in row c) e)

    pub sees_all : IsUnderWay m len before base x (seeing r c seen) known y (holds && zero)
    sees_all = record {
      peeled = h.peeled;
      saw = saw_more;
      sees = sees_more;
      single = λ i d lt2. each_row r c seen (λ j s. j < length m.rows
          → outside s (row_of m j) ≡ d ∷ [] → known d ≡ true) (λ j lt3. h.single j d lt3)
          (λ lt3 one. absurd (cc (one, none))) i lt2;
      sums = λ ok i lt2. each_row r c seen (λ j s. j < length m.rows → outside s (row_of m j) ≡ []
          → outside before (row_of m j) ≢ [] → SumsToZero len y (row_of m j))
          (h.sums (and_first holds zero ok)) (λ lt3 e some. ap (xor_sum len y) (sym whole)
          ∙ zero_is.0 (and_second holds zero ok)) i lt2;
      fails = λ no_more all. ⊎_elim
          (λ f. ⊎_elim (λ g. absurd (true≢false (sym (ap₂ ◌&&◌ f g) ∙ no_more)))
          (λ g. true≢false (sym (zero_is.1 (ap (xor_sum len y) whole
          ∙ all r lt none_known some_before)) ∙ g)) (true_or_false zero))
          (λ f. h.fails f all)
          (true_or_false holds);
    }
      where
        and_first : (a b : Bool) → (a && b) ≡ true → a ≡ true
        and_first true b e = refl
        and_first false b e = e

        and_second : (a b : Bool) → (a && b) ≡ true → b ≡ true
        and_second true b e = e
        and_second false b e = absurd (true≢false (sym e))

  -- with one left that is unknown: its symbol is the sum of the others
  module _ (shape : HasShape m) (is : IsAssignment len y) (d : ℕ) (one : outside others (row_of m r)
      ≡ d ∷ []) (unknown : known d ≡ false) (zero : y d ≡ zero_symbol len) (sum : List ℕ)
      (sum_is : sum ≡ xor_sum len y (filter others (row_of m r))) where
    alone : outside known (row_of m r) ≡ d ∷ []
    alone = ⊎_elim (λ f. absurd (true≢false (sym f.0 ∙ unknown))) (λ f. f.1)
        (outside_one others known others_known (row_of m r) d one)

    grows : IsWithin known (adding d known)
    grows e f = or_first (known e) (d == e) f

    stays : (e : ℕ) → known e ≡ true → y e ≡ keeping d sum y e
    stays e f = sym (ap (λ b. cond b sum (y e))
        (ne_eqb d e (λ z. true≢false (sym f ∙ ap known (sym z) ∙ unknown))))

    row_stays : (i : ℕ) → outside known (row_of m i) ≡ []
        → xor_sum len y (row_of m i) ≡ xor_sum len (keeping d sum y) (row_of m i)
    row_stays i none = sums_agree len y (keeping d sum y) (row_of m i)
        (λ k z lt2. stays _ (row_within known (row_of m i) none k z lt2))

    pub rebuilds : IsUnderWay m len before base x (seeing r c seen) (adding d known)
        (keeping d sum y) holds
    rebuilds = record {
      peeled = peeled_on m shape len base known (adding d known) x y (keeping d sum y) h.peeled
          (peeled_row m shape len known y is r d lt alone zero sum (sum_is
          ∙ sum_without len y is others (row_of m r) d one zero));
      saw = saw_more;
      sees = λ i e f. grows e (sees_more i e f);
      single = λ i e lt2. each_row r c seen (λ j s. j < length m.rows
          → outside s (row_of m j) ≡ e ∷ [] → adding d known e ≡ true)
          (λ j lt3 f. grows e (h.single j e lt3 f))
          (λ lt3 f. or_second (known e) (d == e) (eq-eqb d e (cc (sym one ∙ f)))) i lt2;
      sums = λ ok i lt2. each_row r c seen (λ j s. j < length m.rows → outside s (row_of m j) ≡ []
          → outside before (row_of m j) ≢ [] → SumsToZero len (keeping d sum y) (row_of m j))
          (λ j lt3 none some. sym (row_stays j (outside_within (seen j) known (h.sees j)
          (row_of m j) ∙ ap (outside known) none)) ∙ h.sums ok j lt3 none some)
          (λ lt3 none. absurd (cc (one, none))) i lt2;
      fails = λ no_more all. h.fails no_more (λ i lt2 none some. row_stays i none
          ∙ all i lt2 (outside_within known (adding d known) grows (row_of m i)
          ∙ ap (outside (adding d known)) none) some);
    }

-- ---- the start and the end

-- the columns known before are at rest, and one more is known
pub under_way_begins : (m : Matrix) (len : ℕ) (before : Set) (e : ℕ) (x : ℕ → List ℕ)
    → HasSameMembers (round m before) before → IsUnderWay m len before (adding e before) x
    (λ i. before) (adding e before) x true
under_way_begins m len before e x rests = record {
  peeled = peeled_none m len (adding e before) x;
  saw = λ i d f. f;
  sees = λ i d f. or_first (before d) (e == d) f;
  single = λ i d lt one. or_first (before d) (e == d) (sym (rests d)
      ∙ round_row m before d i lt one);
  sums = λ ok i lt none some. absurd (some none);
  fails = λ never. absurd (true≢false never);
}

-- sets that agree on a row
pub outside_same : (s t : Set) (row : List ℕ) → All (λ c. s c ≡ t c) row
    → outside s row ≡ outside t row
outside_same s t [] h = refl
outside_same s t (c ∷ row) h = ap₂ (λ b cs. cond (not b) (c ∷ cs) cs)
    (All-head (λ d. s d ≡ t d) c row h) (outside_same s t row (All-tail (λ d. s d ≡ t d) c row h))

pub filter_same : (s t : Set) (row : List ℕ) → All (λ c. s c ≡ t c) row
    → filter s row ≡ filter t row
filter_same s t [] h = refl
filter_same s t (c ∷ row) h = ap₂ (λ b cs. cond b (c ∷ cs) cs) (All-head (λ d. s d ≡ t d) c row h)
    (filter_same s t row (All-tail (λ d. s d ≡ t d) c row h))

-- what a row has seen matters for its own columns alone
pub under_way_same : (m : Matrix) (len : ℕ) (before base : Set) (x : ℕ → List ℕ) (seen saw : ℕ
    → Set) (known : Set) (y : ℕ → List ℕ) (holds : Bool)
    → IsUnderWay m len before base x seen known y holds
    → ((i : ℕ) → i < length m.rows → All (λ c. seen i c ≡ saw i c) (row_of m i))
    → ((i : ℕ) → IsWithin before (saw i)) → ((i : ℕ) → IsWithin (saw i) known)
    → IsUnderWay m len before base x saw known y holds
under_way_same m len before base x seen saw known y holds h same from to = record {
  peeled = h.peeled;
  saw = from;
  sees = to;
  single = λ i d lt one. h.single i d lt (outside_same (seen i) (saw i) (row_of m i) (same i lt)
      ∙ one);
  sums = λ ok i lt none some. h.sums ok i lt (outside_same (seen i) (saw i) (row_of m i) (same i lt)
      ∙ none) some;
  fails = h.fails;
}

-- where each row has seen the known columns, a round adds nothing
pub under_way_rests : (m : Matrix) (len : ℕ) (before base : Set) (x : ℕ → List ℕ) (known : Set)
    (y : ℕ → List ℕ) (holds : Bool) → IsUnderWay m len before base x (λ i. known) known y holds
    → HasSameMembers (round m known) known
under_way_rests m len before base x known y holds h =
    rows_rest m known (λ i lt d one. true≢false (sym (h.single i d lt one) ∙ left_out i d one))
  where
    left_out : (i d : ℕ) → outside known (row_of m i) ≡ d ∷ [] → known d ≡ false
    left_out i d one = ⊎_elim (λ f. absurd (cc (one, f.1))) (λ f. f.0)
        (outside_one known known (λ c e. e) (row_of m i) d one)

-- and the answer is right
pub under_way_holds : (m : Matrix) (len : ℕ) (before base : Set) (x : ℕ → List ℕ) (known : Set)
    (y : ℕ → List ℕ) (holds : Bool) → IsUnderWay m len before base x (λ i. known) known y holds
    → IsTrue holds ↔ NewRowsHold m len before known y
under_way_holds m len before base x known y holds h =
    (h.sums, λ all. ⊎_elim (λ e. e) (λ e. absurd (h.fails e all)) (true_or_false holds))
