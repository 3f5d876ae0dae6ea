-- A sum of symbols is zero where the sum of their bytes is, at each place.
use Rattle.std.proofs.Common.{⊎_elim, ◌≡◌, ℕ, ◌<◌, List, [], ◌∷◌, length, All, sym, ap, ◌∙◌, arith}
use Rattle.std.proofs.Common.{bit_xor}
use Rattle.std.specs.Int.Bits.{xor_self, xor_zero_l, xor_assoc}
use Rattle.std.proofs.lemmas.Nat.{xor_comm, xor_of_8}
use Rattle.std.proofs.lemmas.List.{get_or_past}
use Rattle.std.proofs.lemmas.List.Elements.{All-nil, All-cons, All-head, All-tail, All-replicate}
use Rattle.std.proofs.lemmas.Bool.{cases_lt}
use Rattle.fec_base.proofs.SymbolBytes.{byte, byte_xor, byte_zero, length_xor, length_zero}
use Rattle.fec_base.proofs.SymbolBytes.{same_bytes}
use Rattle.fec_base.specs.Symbol.{IsSymbol, xor, zero_symbol, xor_sum}
use Rattle.sparse_rows.specs.Codeword.{symbol_at, SumsToZero, IsAssignment}
use Rattle.sparse_rows.proofs.Algebra.{XorLaws}
use Rattle.sparse_rows.specs.Totals.{total}

pub byte_laws : XorLaws ℕ 0 bit_xor
byte_laws = record { left = xor_zero_l; comm = xor_comm; assoc = xor_assoc; self = xor_self }

-- each column has len bytes
abbrev pub HasLength : ℕ → (ℕ → List ℕ) → Type 0
HasLength len x = (c : ℕ) → length (x c) ≡ len

pub length_sum : (len : ℕ) (x : ℕ → List ℕ) → HasLength len x → (cs : List ℕ)
    → length (xor_sum len x cs) ≡ len
length_sum len x h [] = length_zero len
length_sum len x h (c ∷ cs) = length_xor (x c) (xor_sum len x cs)
    (h c ∙ sym (length_sum len x h cs)) ∙ h c

pub byte_sum : (len : ℕ) (x : ℕ → List ℕ) → HasLength len x → (j : ℕ) (cs : List ℕ)
    → byte j (xor_sum len x cs) ≡ total 0 bit_xor (λ c. byte j (x c)) cs
byte_sum len x h j [] = byte_zero len j
byte_sum len x h j (c ∷ cs) = byte_xor (x c) (xor_sum len x cs) (h c ∙ sym (length_sum len x h cs))
    j ∙ ap (bit_xor (byte j (x c))) (byte_sum len x h j cs)

pub plane_zero : (len : ℕ) (x : ℕ → List ℕ) → HasLength len x → (row : List ℕ)
    → SumsToZero len x row → (j : ℕ) → total 0 bit_xor (λ c. byte j (x c)) row ≡ 0
plane_zero len x h row e j = sym (byte_sum len x h j row) ∙ ap (byte j) e ∙ byte_zero len j

pub zero_from_planes : (len : ℕ) (x : ℕ → List ℕ) → HasLength len x → (row : List ℕ)
    → ((j : ℕ) → total 0 bit_xor (λ c. byte j (x c)) row ≡ 0) → SumsToZero len x row
zero_from_planes len x h row e = same_bytes _ _ (length_sum len x h row ∙ sym (length_zero len))
    (λ j. byte_sum len x h j row ∙ e j ∙ sym (byte_zero len j))

-- ---- symbols

pub zero_is_symbol : (len : ℕ) → IsSymbol len (zero_symbol len)
zero_is_symbol len = record {
  long = length_zero len;
  bytes = All-replicate (λ b. b < 256) len 0 (omega arith);
}

pub symbol_at_is : (len : ℕ) (word : List (List ℕ)) → All (IsSymbol len) word
    → IsAssignment len (symbol_at len word)
symbol_at_is len word h c = ⊎_elim (λ lt. h c (zero_symbol len) lt)
    (λ le. rw (get_or_past word c (zero_symbol len) le) (zero_is_symbol len))
    (cases_lt c (length word))

pub xor_is_symbol : (len : ℕ) (s t : List ℕ) → IsSymbol len s → IsSymbol len t
    → IsSymbol len (xor s t)
xor_is_symbol len s t a b = record {
  long = length_xor s t (a.long ∙ sym b.long) ∙ a.long;
  bytes = bytes_of s t a.bytes b.bytes;
}
  where
    bytes_of : (u v : List ℕ) → All (λ n. n < 256) u → All (λ n. n < 256) v
        → All (λ n. n < 256) (xor u v)
    bytes_of [] v hu hv = All-nil (λ n. n < 256)
    bytes_of (m ∷ u) [] hu hv = All-nil (λ n. n < 256)
    bytes_of (m ∷ u) (n ∷ v) hu hv = All-cons (λ b. b < 256) (bit_xor m n) (xor u v)
        (xor_of_8 m n (All-head (λ b. b < 256) m u hu) (All-head (λ b. b < 256) n v hv))
        (bytes_of u v (All-tail (λ b. b < 256) m u hu) (All-tail (λ b. b < 256) n v hv))
