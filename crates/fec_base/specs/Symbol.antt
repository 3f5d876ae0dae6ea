-- Symbols, their sum, and symbols that lie one after the other.
use Rattle.std.specs.Prelude.{◌≡◌, ℕ, ◌*◌, ◌<◌, List, [], ◌∷◌, length, take, drop, map, replicate}
use Rattle.std.specs.Prelude.{bit_xor, All}
use Rattle.std.specs.List.{range_with_len}

-- a symbol is a list of `len` bytes
pub record IsSymbol (len : ℕ) (symbol : List ℕ) : Type 0 where
  pub long : length symbol ≡ len
  pub bytes : All (λ byte. byte < 256) symbol

-- the sum of two symbols is their XOR, byte by byte
abbrev pub xor : List ℕ → List ℕ → List ℕ
xor [] other = []
xor (a ∷ symbol) [] = []
xor (a ∷ symbol) (b ∷ other) = bit_xor a b ∷ xor symbol other

-- the symbol whose bytes are all zero
abbrev pub zero_symbol : ℕ → List ℕ
zero_symbol len = replicate len 0

-- the sum of the symbols that x gives to the columns
abbrev pub xor_sum : ℕ → (ℕ → List ℕ) → List ℕ → List ℕ
xor_sum len x [] = zero_symbol len
xor_sum len x (column ∷ columns) = xor (x column) (xor_sum len x columns)

-- the first `count` symbols of `len` bytes that lie one after the other in some bytes
abbrev pub symbols_of : ℕ → ℕ → List ℕ → List (List ℕ)
symbols_of len count bytes = map (λ i. take len (drop (i * len) bytes)) (range_with_len 0 count)
