-- The bytes of symbols and of their sums.
use Rattle.std.proofs.Common.{◌≡◌, ℕ, zero, suc, List, [], ◌∷◌, length, get_or, refl, ap, arith}
use Rattle.std.proofs.Common.{bit_xor}
use Rattle.std.proofs.lemmas.List.{ext_get_or}
use Rattle.fec_base.specs.Symbol.{xor, zero_symbol}

-- the byte of a symbol at a place
abbrev pub byte : ℕ → List ℕ → ℕ
byte j s = get_or s j 0

pub length_xor : (s t : List ℕ) → length s ≡ length t → length (xor s t) ≡ length s
length_xor [] t e = refl
length_xor (a ∷ s) [] e = absurd (omega arith)
length_xor (a ∷ s) (b ∷ t) e = ap suc (length_xor s t (omega arith))

pub byte_xor : (s t : List ℕ) → length s ≡ length t → (j : ℕ)
    → byte j (xor s t) ≡ bit_xor (byte j s) (byte j t)
byte_xor [] [] e j = refl
byte_xor [] (b ∷ t) e j = absurd (omega arith)
byte_xor (a ∷ s) [] e j = absurd (omega arith)
byte_xor (a ∷ s) (b ∷ t) e zero = refl
byte_xor (a ∷ s) (b ∷ t) e (suc j) = byte_xor s t (omega arith) j

pub byte_zero : (len j : ℕ) → byte j (zero_symbol len) ≡ 0
byte_zero zero j = refl
byte_zero (suc len) zero = refl
byte_zero (suc len) (suc j) = byte_zero len j

pub length_zero : (len : ℕ) → length (zero_symbol len) ≡ len
length_zero zero = refl
length_zero (suc len) = ap suc (length_zero len)

-- symbols of one length that have the same bytes are equal
pub same_bytes : (s t : List ℕ) → length s ≡ length t → ((j : ℕ) → byte j s ≡ byte j t) → s ≡ t
same_bytes s t e h = ext_get_or 0 s t e (λ j lt. h j)
