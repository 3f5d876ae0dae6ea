-- Bits of the bytes of symbols, and where two sources differ.
use Rattle.std.proofs.Common.{lit<, lt-suc_self, take, ⊎_elim, ◌≡◌, ◌≢◌, ℕ, zero, suc, ◌+◌, ◌%◌}
use Rattle.std.proofs.Common.{◌^◌, ◌<◌, ◌⊎◌, inl, inr, Bool, true, false, ◌==◌, List, [], ◌∷◌}
use Rattle.std.proofs.Common.{length, sym, ap, refl, ◌∙◌, subst, arith, bit_xor, true≢false}
use Rattle.std.specs.Int.{bit_at}
use Rattle.std.proofs.Math.Bool.{xor as bool_xor}
use Rattle.std.proofs.lemmas.Bool.{cases_lt}
use Rattle.std.proofs.lemmas.Nat.Bits.{bit_at_xor, bit_at-lt, bit_at-zero, same_from_bits_below}
use Rattle.std.proofs.lemmas.List.{ext_get_or, get_or_past, get_or-take, length-take-le}
use Rattle.fec_base.specs.Symbol.{IsSymbol, zero_symbol}
use Rattle.sparse_rows.specs.Matrix.{Matrix, HasShape}
use Rattle.sparse_rows.specs.Codeword.{symbol_at, IsCodeword}
use Rattle.sparse_rows.specs.Totals.{total}
use Rattle.fec_base.proofs.SymbolBytes.{byte}
use Rattle.sparse_rows.proofs.Planes.{symbol_at_is}
use Rattle.sparse_rows.proofs.Shape.{last_or_before}

-- either some number below n is of the one kind, or all are of the other
pub search_below : (P Q : ℕ → Type 0) → ((i : ℕ) → P i ⊎ Q i) → (n : ℕ)
    → ((i : ℕ) × (i < n) × P i) ⊎ ((i : ℕ) → i < n → Q i)
search_below P Q choose zero = inr (λ i lt. absurd (omega arith))
search_below P Q choose (suc n) = ⊎_elim (λ r. inl (r.0, omega (arith, r.1), r.2))
    (λ h. ⊎_elim (λ p. inl (n, lt-suc_self n, p))
    (λ q. inr (λ i lt. ⊎_elim (λ e. subst Q (sym e) q) (λ lt2. h i lt2) (last_or_before i n lt)))
    (choose n)) (search_below P Q choose n)

-- ---- one bit of each byte

pub bit : ℕ → ℕ → Bool
bit i n = bit_at n i == 1

bit_sum : (x y : ℕ) → x < 2 → y < 2 → ((x + y) % 2 == 1) ≡ bool_xor (x == 1) (y == 1)
unfolding bool_xor
bit_sum zero zero hx hy = refl
bit_sum zero (suc zero) hx hy = refl
bit_sum (suc zero) zero hx hy = refl
bit_sum (suc zero) (suc zero) hx hy = refl
bit_sum (suc (suc x)) y hx hy = absurd (omega arith)
bit_sum x (suc (suc y)) hx hy = absurd (omega arith)

bit_of_xor : (i a b : ℕ) → bit i (bit_xor a b) ≡ bool_xor (bit i a) (bit i b)
unfolding bit
bit_of_xor i a b = ap (λ z. z == 1) (bit_at_xor a b i) ∙ bit_sum (bit_at a i) (bit_at b i)
    (bit_at-lt a i) (bit_at-lt b i)

pub bit_of_zero : (i : ℕ) → bit i 0 ≡ false
unfolding bit
bit_of_zero i = rw (bit_at-zero i) refl

pub bit_of_total : (i : ℕ) (x : ℕ → ℕ) (cs : List ℕ) → total false bool_xor
    (λ c. bit i (x c)) cs ≡ bit i (total 0 bit_xor x cs)
bit_of_total i x [] = sym (bit_of_zero i)
bit_of_total i x (c ∷ cs) = ap (bool_xor (bit i (x c))) (bit_of_total i x cs)
    ∙ sym (bit_of_xor i (x c) (total 0 bit_xor x cs))

same_bit : (x y : ℕ) → x < 2 → y < 2 → bool_xor (x == 1) (y == 1) ≡ false → x ≡ y
unfolding bool_xor
same_bit zero zero hx hy e = refl
same_bit zero (suc zero) hx hy e = absurd (true≢false e)
same_bit (suc zero) zero hx hy e = absurd (true≢false e)
same_bit (suc zero) (suc zero) hx hy e = refl
same_bit (suc (suc x)) y hx hy e = absurd (omega arith)
same_bit x (suc (suc y)) hx hy e = absurd (omega arith)

differ_bit : (a b i : ℕ) → (bool_xor (bit i a) (bit i b) ≡ true) ⊎ (bit_at a i ≡ bit_at b i)
unfolding bit
differ_bit a b i = by_case (bool_xor (bit_at a i == 1) (bit_at b i == 1)) refl
  where
    by_case : (t : Bool) → bool_xor (bit_at a i == 1) (bit_at b i == 1) ≡ t
        → (bool_xor (bit_at a i == 1) (bit_at b i == 1) ≡ true) ⊎ (bit_at a i ≡ bit_at b i)
    by_case true e = inl e
    by_case false e = inr (same_bit _ _ (bit_at-lt a i) (bit_at-lt b i) e)

-- a bit at which the symbols differ at a place
abbrev pub DifferAt : List ℕ → List ℕ → ℕ → Type 0
DifferAt s t j = (i : ℕ) × (i < 8) × (bool_xor (bit i (byte j s)) (bit i (byte j t)) ≡ true)

-- symbols with no bit that differs are equal
differ_byte : (len : ℕ) (s t : List ℕ) → IsSymbol len s → IsSymbol len t → (j : ℕ)
    → DifferAt s t j ⊎ (byte j s ≡ byte j t)
differ_byte len s t hs ht j = ⊎_elim inl
    (λ h. inr (same_from_bits_below 8 _ _ (small s hs) (small t ht) h))
    (search_below (λ i. bool_xor (bit i (byte j s)) (bit i (byte j t)) ≡ true)
    (λ i. bit_at (byte j s) i ≡ bit_at (byte j t) i) (differ_bit (byte j s) (byte j t)) 8)
  where
    small : (u : List ℕ) → IsSymbol len u → byte j u < 2 ^ 8
    small u hu = ⊎_elim (λ lt. hu.bytes j 0 lt) (λ le. rw (get_or_past u j 0 le) (lit< tt))
        (cases_lt j (length u))

pub differ_symbol : (len : ℕ) (s t : List ℕ) → IsSymbol len s → IsSymbol len t
    → ((j : ℕ) × (j < len) × DifferAt s t j) ⊎ (s ≡ t)
differ_symbol len s t hs ht = ⊎_elim inl
    (λ h. inr (ext_get_or 0 s t (hs.long ∙ sym ht.long) (λ j lt. h j (rw hs.long at lt))))
    (search_below (DifferAt s t) (λ j. byte j s ≡ byte j t) (differ_byte len s t hs ht) len)

-- two sources that differ do so at a bit of a byte of a symbol
pub differ_source : (m : Matrix) → HasShape m → (len : ℕ) (a b : List (List ℕ)) → IsCodeword m len a
    → IsCodeword m len b → take m.k a ≢ take m.k b
    → (c : ℕ) × (c < m.k) × ((j : ℕ) × (j < len) × DifferAt (symbol_at len a c) (symbol_at len b c)
    j)
differ_source m shape len a b ha hb differ = ⊎_elim (λ r. r) (λ h. absurd (differ (same h)))
    (search_below (λ c. (j : ℕ) × (j < len) × DifferAt (symbol_at len a c) (symbol_at len b c) j)
    (λ c. symbol_at len a c ≡ symbol_at len b c)
    (λ c. differ_symbol len _ _ (symbol_at_is len a ha.symbols c) (symbol_at_is len b hb.symbols c))
    m.k)
  where
    long : (w : List (List ℕ)) → IsCodeword m len w → length (take m.k w) ≡ m.k
    long w hw = length-take-le m.k w (omega (arith, hw.count, shape.count))

    same : ((c : ℕ) → c < m.k → symbol_at len a c ≡ symbol_at len b c) → take m.k a ≡ take m.k b
    same h = ext_get_or (zero_symbol len) (take m.k a) (take m.k b) (long a ha ∙ sym (long b hb))
        (λ c lt.
        let lt2 : c < m.k = rw (long a ha) at lt in
        get_or-take m.k a c (zero_symbol len) lt2 ∙ h c lt2
        ∙ sym (get_or-take m.k b c (zero_symbol len) lt2))
