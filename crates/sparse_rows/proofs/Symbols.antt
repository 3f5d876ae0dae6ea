-- Symbols that lie one after the other, and sums of one symbol more.
use Rattle.std.proofs.Common.{◌≡◌, ℕ, zero, suc, ◌+◌, ◌*◌, ◌-◌, ◌<◌, ◌≤◌, List, [], ◌∷◌, ◌++◌}
use Rattle.std.proofs.Common.{length, get_or, take, drop, All, refl, sym, ap, ◌∙◌, arith, bit_xor}
use Rattle.std.proofs.Common.{length-drop, length-take-le}
use Rattle.std.specs.Int.Bits.{xor_zero_l, xor_assoc}
use Rattle.std.proofs.Math.Nat.{mul-le-mul_right}
use Rattle.std.proofs.lemmas.Nat.{xor_comm}
use Rattle.std.proofs.lemmas.List.{ext_get_or, drop-take}
use Rattle.std.proofs.lemmas.List.Elements.{All-take, All-drop, All-from_get_or}
use Rattle.std.proofs.lemmas.List.FromFn.{length-map-range_with_len, get_or-map-range_with_len}
use Rattle.std.proofs.lemmas.List.FromFn.{map-range_with_len_more}
use Rattle.fec_base.specs.Symbol.{IsSymbol, xor, zero_symbol, xor_sum, symbols_of}
use Rattle.fec_base.proofs.SymbolBytes.{byte, byte_xor, byte_zero, length_xor, length_zero}
use Rattle.fec_base.proofs.SymbolBytes.{same_bytes}
use Rattle.sparse_rows.proofs.Planes.{HasLength, length_sum}

-- a front of a front
pub take_take : (n m : ℕ) (xs : List ℕ) → n ≤ m → take n (take m xs) ≡ take n xs
take_take zero m xs le = refl
take_take (suc n) zero xs le = absurd (omega arith)
take_take (suc n) (suc m) [] le = refl
take_take (suc n) (suc m) (x ∷ xs) le = ap (λ ys. x ∷ ys) (take_take n m xs (omega arith))

-- the bytes of the i-th symbol
abbrev pub piece : ℕ → List ℕ → ℕ → List ℕ
piece len bytes i = take len (drop (i * len) bytes)

pub length_symbols : (len count : ℕ) (bytes : List ℕ) → length (symbols_of len count bytes) ≡ count
length_symbols len count bytes = length-map-range_with_len (piece len bytes) 0 count

pub symbol_is : (len count : ℕ) (bytes : List ℕ) (i : ℕ) (d : List ℕ) → i < count
    → get_or (symbols_of len count bytes) i d ≡ piece len bytes i
symbol_is len count bytes i d lt = get_or-map-range_with_len (piece len bytes) 0 count i i d lt
    (omega arith)

-- one symbol more
pub symbols_more : (len count : ℕ) (bytes : List ℕ) → symbols_of len (count + 1) bytes ≡ symbols_of
    len count bytes ++ piece len bytes count ∷ []
symbols_more len count bytes = map-range_with_len_more (piece len bytes) 0 count count (omega arith)

-- the place of a symbol lies within the bytes of all
pub symbol_room : (len count i : ℕ) → i < count → i * len + len ≤ count * len
symbol_room len count i lt = let h : (i + 1) * len ≤ count * len =
    mul-le-mul_right len (omega arith) in omega arith

-- a symbol of the first part is a symbol of the whole
pub piece_of_front : (len i n : ℕ) (bytes : List ℕ) → i * len + len ≤ n
    → piece len (take n bytes) i ≡ piece len bytes i
piece_of_front len i n bytes fits =
    let a : ℕ = i * len in
    let parts : n ≡ a + (n - a) = omega arith in
    ap (λ (m : ℕ). take len (drop a (take m bytes))) parts
    ∙ ap (take len) (drop-take a (n - a) bytes) ∙ take_take len (n - a) (drop a bytes)
    (omega arith)

pub symbols_of_front : (len count : ℕ) (bytes : List ℕ)
    → symbols_of len count (take (count * len) bytes) ≡ symbols_of len count bytes
symbols_of_front len count bytes = ext_get_or [] _ _ (length_symbols len count _
    ∙ sym (length_symbols len count bytes))
    (λ i lt. let inside : i < count = omega
    (arith, lt, length_symbols len count (take (count * len) bytes)) in
    symbol_is len count _ i [] inside ∙ piece_of_front len i (count * len) bytes
    (symbol_room len count i inside) ∙ sym (symbol_is len count bytes i [] inside))

-- each is a symbol
pub symbols_are : (len count : ℕ) (bytes : List ℕ) → count * len ≤ length bytes
    → All (λ b. b < 256) bytes → All (IsSymbol len) (symbols_of len count bytes)
symbols_are len count bytes room small = All-from_get_or (IsSymbol len) (symbols_of len count bytes)
    []
    (λ i lt. let inside : i < count = omega (arith, lt, length_symbols len count bytes) in
    rw (symbol_is len count bytes i [] inside) (record {
      long = length-take-le len (drop (i * len) bytes)
          (omega (arith, symbol_room len count i inside, length-drop (i * len) bytes));
      bytes = All-take (λ b. b < 256) len _ (All-drop (λ b. b < 256) (i * len) bytes small);
    }))

-- ---- sums

xor_long : (s t : List ℕ) (len : ℕ) → length s ≡ len → length t ≡ len → length (xor s t) ≡ len
xor_long s t len a b = length_xor s t (a ∙ sym b) ∙ a

pub symbol_xor_assoc : (s t u : List ℕ) (len : ℕ) → length s ≡ len → length t ≡ len → length u ≡ len
    → xor (xor s t) u ≡ xor s (xor t u)
symbol_xor_assoc s t u len a b c = same_bytes _ _ (xor_long _ u len (xor_long s t len a b) c
    ∙ sym (xor_long s _ len a (xor_long t u len b c)))
    (λ j. byte_xor (xor s t) u (xor_long s t len a b ∙ sym c) j ∙ ap (λ x. bit_xor x (byte j u))
    (byte_xor s t (a ∙ sym b) j) ∙ xor_assoc (byte j s) (byte j t) (byte j u)
    ∙ ap (bit_xor (byte j s)) (sym (byte_xor t u (b ∙ sym c) j))
    ∙ sym (byte_xor s (xor t u) (a ∙ sym (xor_long t u len b c)) j))

pub symbol_xor_comm : (s t : List ℕ) → length s ≡ length t → xor s t ≡ xor t s
symbol_xor_comm s t e = same_bytes _ _ (length_xor s t e ∙ e ∙ sym (length_xor t s (sym e)))
    (λ j. byte_xor s t e j ∙ xor_comm (byte j s) (byte j t) ∙ sym (byte_xor t s (sym e) j))

pub symbol_xor_zero : (s : List ℕ) (len : ℕ) → length s ≡ len → xor s (zero_symbol len) ≡ s
symbol_xor_zero s len e = same_bytes _ _
    (length_xor s (zero_symbol len) (e ∙ sym (length_zero len)))
    (λ j. byte_xor s (zero_symbol len) (e ∙ sym (length_zero len)) j
    ∙ ap (bit_xor (byte j s)) (byte_zero len j) ∙ xor_comm (byte j s) 0 ∙ xor_zero_l (byte j s))

-- a sum over one column more
pub xor_sum_push : (len : ℕ) (x : ℕ → List ℕ) → HasLength len x → (columns : List ℕ) (c : ℕ)
    → xor_sum len x (columns ++ c ∷ []) ≡ xor (xor_sum len x columns) (x c)
xor_sum_push len x long [] c = symbol_xor_comm (x c) (zero_symbol len) (long c
    ∙ sym (length_zero len))
xor_sum_push len x long (d ∷ columns) c =
    ap (xor (x d)) (xor_sum_push len x long columns c)
    ∙ sym (symbol_xor_assoc (x d) (xor_sum len x columns) (x c) len (long d)
    (length_sum len x long columns) (long c))
