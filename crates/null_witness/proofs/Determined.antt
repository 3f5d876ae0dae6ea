-- Where some codeword fits, the source is open exactly where the positions have a null word.
use Rattle.std.proofs.Common.{⊎_elim, lit<, take, map, ◌≡◌, ◌≢◌, ℕ, zero, suc, ◌<◌, ◌≤◌, Bool, true}
use Rattle.std.proofs.Common.{false, cond, ◌==◌, List, [], ◌∷◌, length, get_or, refl, sym, ap, ap₂}
use Rattle.std.proofs.Common.{◌∙◌, subst, arith, bit_xor, eqb-true, eq-eqb, zero-add}
use Rattle.std.specs.List.{range_with_len}
use Rattle.std.proofs.Math.Bool.{xor as bool_xor}
use Rattle.std.proofs.lemmas.List.{get_or_past}
use Rattle.std.proofs.lemmas.Bool.{cases_lt, false_from_ne_true}
use Rattle.std.proofs.lemmas.List.FromFn.{get_or-map-range_with_len, length-map-range_with_len}
use Rattle.std.proofs.lemmas.List.Elements.{All-from_get_or, All-cons}
use Rattle.fec_base.specs.Symbol.{IsSymbol, xor, zero_symbol}
use Rattle.sparse_rows.specs.Matrix.{Matrix, HasShape, is_in}
use Rattle.sparse_rows.specs.Codeword.{Arrival, Fits, symbol_at, SumsToZero, IsAssignment}
use Rattle.sparse_rows.specs.Codeword.{positions}
use Rattle.sparse_rows.specs.Closure.{Set, members}
use Rattle.sparse_rows.specs.NullWord.{IsNullWord}
use Rattle.sparse_rows.specs.Fitting.{IsFitting, IsUndetermined}
use Rattle.sparse_rows.proofs.Algebra.{total_add, total_same, cancel}
use Rattle.sparse_rows.specs.Totals.{total}
use Rattle.fec_base.proofs.SymbolBytes.{byte, byte_xor}
use Rattle.sparse_rows.proofs.Planes.{byte_laws, plane_zero, zero_from_planes, zero_is_symbol}
use Rattle.sparse_rows.proofs.Planes.{xor_is_symbol, symbol_at_is}
use Rattle.sparse_rows.proofs.Parity.{bit_laws}
use Rattle.sparse_rows.proofs.Shape.{row_below}
use Rattle.sparse_rows.proofs.Sets.{any_at, any_from}
use Rattle.sparse_rows.proofs.Null.{null_of, null_outside, null_even, null_source, in_all, in_at}
use Rattle.sparse_rows.proofs.Null.{members_in}
use Rattle.sparse_rows.proofs.Encode.{source_at}
use Rattle.null_witness.proofs.Bits.{DifferAt, bit, bit_of_total, bit_of_zero, differ_source}

-- a position that arrived has the bytes that came
pub fits_at : (arrivals : List Arrival) (x y : ℕ → List ℕ) → Fits arrivals x → Fits arrivals y
    → (c : ℕ) → positions arrivals c ≡ true → x c ≡ y c
fits_at arrivals x y hx hy c e =
    let r = any_at (λ (a : Arrival). a.0 == c) (0, []) arrivals e in
    let z : (get_or arrivals r.0 (0, [])).0 ≡ c = eqb-true _ _ r.2 in
    sym (ap x z) ∙ hx r.0 (0, []) r.1 ∙ sym (hy r.0 (0, []) r.1) ∙ ap y z

-- two codewords that fit and differ at a column do so by a null word that holds it
pub null_of_differ : (m : Matrix) → HasShape m → (len : ℕ) (arrivals : List Arrival)
    (word other : List (List ℕ)) → IsFitting m len arrivals word → IsFitting m len arrivals other
    → (c : ℕ) → c < m.n → (j : ℕ) → DifferAt (symbol_at len word c) (symbol_at len other c) j
    → (null : List ℕ) × IsNullWord m (positions arrivals) null × (is_in null c ≡ true)
null_of_differ m shape len arrivals word other word_fits other_fits c lt j differ = (
  members m.n w,
  null_of m (row_below m shape) (positions arrivals) w c lt differ.2 outside even,
  members_in m.n w c lt differ.2,
)
  where
    a : ℕ → List ℕ
    a = symbol_at len word

    b : ℕ → List ℕ
    b = symbol_at len other

    ja : ℕ → ℕ
    ja d = byte j (a d)

    jb : ℕ → ℕ
    jb d = byte j (b d)

    i : ℕ
    i = differ.0

    w : Set
    w d = bool_xor (bit i (ja d)) (bit i (jb d))

    outside : (d : ℕ) → positions arrivals d ≡ true → w d ≡ false
    outside d e = ap (λ s. bool_xor (bit i (byte j s)) (bit i (jb d)))
        (fits_at arrivals a b word_fits.fits other_fits.fits d e) ∙ bit_laws.self _

    zero_plane : (x : ℕ → List ℕ) → IsAssignment len x → (row : List ℕ) → SumsToZero len x row
        → total false bool_xor (λ d. bit i (byte j (x d))) row ≡ false
    zero_plane x hx row e = bit_of_total i (λ d. byte j (x d)) row
        ∙ ap (bit i) (plane_zero len x (λ d. (hx d).long) row e j) ∙ bit_of_zero i

    even : (t : ℕ) → t < length m.rows → total false bool_xor w (get_or m.rows t []) ≡ false
    even t below = total_add false bool_xor bit_laws (λ d. bit i (ja d)) (λ d. bit i (jb d))
        (get_or m.rows t [])
        ∙ ap₂ bool_xor (zero_plane a (symbol_at_is len word word_fits.codeword.symbols) _
        (word_fits.codeword.rows t [] below))
        (zero_plane b (symbol_at_is len other other_fits.codeword.symbols) _
        (other_fits.codeword.rows t [] below))
        ∙ bit_laws.self false

-- codewords with two sources differ by a null word
pub null_of_two : (m : Matrix) → HasShape m → (len : ℕ) (arrivals : List Arrival)
    → IsUndetermined m len arrivals → (null : List ℕ) × IsNullWord m (positions arrivals) null
null_of_two m shape len arrivals two =
    let r = differ_source m shape len two.word two.other two.word_fits.codeword
    two.other_fits.codeword two.differ in
    let null = null_of_differ m shape len arrivals two.word two.other two.word_fits two.other_fits
    r.0 (omega (arith, r.1, shape.count)) r.2.0 r.2.2 in (null.0, null.1)

-- ---- a null word gives a second codeword

-- the symbol whose first byte is one
pub one_symbol : ℕ → List ℕ
one_symbol zero = []
one_symbol (suc len) = 1 ∷ zero_symbol len

pub one_is_symbol : (len : ℕ) → IsSymbol len (one_symbol len)
unfolding one_symbol
one_is_symbol zero = zero_is_symbol zero
one_is_symbol (suc len) = let z = zero_is_symbol len in
    record {
      long = ap suc z.long;
      bytes = All-cons (λ b. b < 256) 1 (zero_symbol len)
          (lit< tt) z.bytes;
    }

pub one_first : (len : ℕ) → 1 ≤ len → byte 0 (one_symbol len) ≡ 1
unfolding one_symbol
one_first zero h = absurd (omega arith)
one_first (suc len) h = refl

pub total_choose : (w : Set) (v : ℕ) (cs : List ℕ) → total 0 bit_xor (λ c. cond (w c) v 0) cs ≡ cond
    (total false bool_xor w cs) v 0
unfolding bool_xor
total_choose w v [] = refl
total_choose w v (c ∷ cs) = ap (bit_xor (cond (w c) v 0)) (total_choose w v cs)
    ∙ by_case (w c) (total false bool_xor w cs)
  where
    by_case : (p q : Bool) → bit_xor (cond p v 0) (cond q v 0) ≡ cond (bool_xor p q) v 0
    by_case true true = byte_laws.self v
    by_case true false = byte_laws.comm v 0 ∙ byte_laws.left v
    by_case false true = byte_laws.left v
    by_case false false = refl

module _ (m : Matrix) (shape : HasShape m) (len : ℕ) (arrivals : List Arrival)
    (word : List (List ℕ)) (fitting : IsFitting m len arrivals word) (null : List ℕ)
    (is_null : IsNullWord m (positions arrivals) null) where
  flipped : ℕ → List ℕ
  flipped c = cond (is_in null c) (xor (symbol_at len word c) (one_symbol len))
      (symbol_at len word c)

  pub second : List (List ℕ)
  unfolding flipped
  second = map flipped (range_with_len 0 m.n)

  word_is : IsAssignment len (symbol_at len word)
  word_is = symbol_at_is len word fitting.codeword.symbols

  flipped_is : IsAssignment len flipped
  unfolding flipped
  flipped_is c = by_case (is_in null c)
    where
      by_case : (b : Bool)
          → IsSymbol len (cond b (xor (symbol_at len word c) (one_symbol len))
          (symbol_at len word c))
      by_case true = xor_is_symbol len _ _ (word_is c) (one_is_symbol len)
      by_case false = word_is c

  second_length : length second ≡ m.n
  unfolding second
  second_length = length-map-range_with_len flipped 0 m.n

  kept : (c : ℕ) → is_in null c ≡ false → flipped c ≡ symbol_at len word c
  unfolding flipped
  kept c e = rw e refl

  second_at : (c : ℕ) → symbol_at len second c ≡ flipped c
  unfolding second
  second_at c = ⊎_elim (λ lt. get_or-map-range_with_len flipped 0 m.n c c (zero_symbol len) lt
      (zero-add c))
      (λ le. get_or_past second c (zero_symbol len) (rw second_length le)
      ∙ sym (get_or_past word c (zero_symbol len) (rw fitting.codeword.count le))
      ∙ sym (kept c
      (false_from_ne_true _
      (λ e. let lt : c < m.n = in_all (λ d. d < m.n) null is_null.below c e in omega arith))))
      (cases_lt c m.n)

  byte_flipped : (j c : ℕ) → byte j (symbol_at len second c) ≡ bit_xor
      (byte j (symbol_at len word c)) (cond (is_in null c) (byte j (one_symbol len)) 0)
  unfolding flipped
  byte_flipped j c = ap (byte j) (second_at c) ∙ by_case (is_in null c)
    where
      by_case : (b : Bool)
          → byte j (cond b (xor (symbol_at len word c) (one_symbol len)) (symbol_at len word c)) ≡
          bit_xor (byte j (symbol_at len word c)) (cond b (byte j (one_symbol len)) 0)
      by_case true = byte_xor _ _ ((word_is c).long ∙ sym (one_is_symbol len).long) j
      by_case false = sym (byte_laws.comm _ 0 ∙ byte_laws.left _)

  pub second_fits : IsFitting m len arrivals second
  second_fits = record {
    codeword = record {
      count = second_length;
      symbols = All-from_get_or (IsSymbol len) second (zero_symbol len)
          (λ c lt. rw second_at (flipped_is c));
      rows = All-from_get_or (SumsToZero len (symbol_at len second)) m.rows [] (λ i lt.
          zero_from_planes len (symbol_at len second)
          (λ c. ap length (second_at c) ∙ (flipped_is c).long) (get_or m.rows i []) (λ j.
          total_same 0 bit_xor byte_laws _ _ (get_or m.rows i []) (λ t d lt2. byte_flipped j _)
          ∙ total_add 0 bit_xor byte_laws (λ c. byte j (symbol_at len word c))
          (λ c. cond (is_in null c) (byte j (one_symbol len)) 0) (get_or m.rows i [])
          ∙ ap₂ bit_xor (plane_zero len (symbol_at len word) (λ c. (word_is c).long) _
          (fitting.codeword.rows i [] lt) j)
          (total_choose (is_in null) (byte j (one_symbol len)) (get_or m.rows i [])
          ∙ ap (λ b. cond b (byte j (one_symbol len)) 0)
          (null_even m (positions arrivals) null is_null i lt))));
    };
    fits = All-from_get_or (λ (a : Arrival). symbol_at len second a.0 ≡ a.1) arrivals (0, [])
        (λ i lt.
        second_at _
        ∙ kept _ (null_outside m (positions arrivals) null is_null _
        (any_from (λ (a : Arrival). a.0 == (get_or arrivals i (0, [])).0) (0, []) arrivals i lt
        (eq-eqb _ _ refl))) ∙ fitting.fits i (0, []) lt);
  }

  -- it has another symbol at each column of the null word
  pub second_flips : 1 ≤ len → (c : ℕ) → is_in null c ≡ true
      → symbol_at len word c ≢ symbol_at len second c
  second_flips h c inside same =
      let flip : bit_xor (byte 0 (symbol_at len word c)) 1 ≡ byte 0 (symbol_at len word c) = ap
      (bit_xor (byte 0 (symbol_at len word c)))
      (sym (ap (λ b. cond b (byte 0 (one_symbol len)) 0) inside ∙ one_first len h))
      ∙ sym (byte_flipped 0 c) ∙ ap (byte 0) (sym same) in
      let z : ◌≡◌ {A = ℕ} 1 0 = cancel 0 bit_xor byte_laws (byte 0 (symbol_at len word c)) 1 0
      (flip ∙ sym (byte_laws.comm _ 0 ∙ byte_laws.left _)) in omega arith

  second_differs : 1 ≤ len → take m.k word ≢ take m.k second
  second_differs h e =
      let r = null_source m shape (positions arrivals) null is_null in
      let inside : is_in null r.1 ≡ true = subst (λ c. is_in null c ≡ true) r.3
      (in_at null r.0 r.1 r.2) in
      second_flips h r.1 inside (source_at m len word second e r.1 r.4)

  pub two_of_null : 1 ≤ len → IsUndetermined m len arrivals
  two_of_null h = record {
    word = word;
    other = second;
    word_fits = fitting;
    other_fits = second_fits;
    differ = second_differs h;
  }
