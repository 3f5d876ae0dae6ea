-- Inside: rows of bits in 64-bit words, and symbols in bytes, one after the other.
use Rattle.std.specs.Prelude.{◌≡◌, ◌≢◌, ◌≤◌, ◌<◌, ◌+◌, ◌*◌, ◌/◌, ◌%◌, ◌^◌, ◌==◌, ◌&&◌, ℕ, List, []}
use Rattle.std.specs.Prelude.{length, map, slice_index_or, All}
use Rattle.std.specs.Int.{bit_at}
use Rattle.std.specs.List.{range_with_len}
use Rattle.std.proofs.Common.{ltb}
use Rattle.sparse_rows.specs.Closure.{Set, members}
use Rattle.fec_base.specs.Symbol.{IsSymbol}
use Rattle.gauss.specs.Equations.{Equation, System}

-- how many words a row of so many bits has
abbrev pub width_of : ℕ → ℕ
width_of unknowns = (unknowns + 63) / 64

-- the bits of row r, where each row has `width` words
abbrev pub bits_of : ℕ → List ℕ → ℕ → Set
bits_of width words r c =
    ltb c (width * 64) && (bit_at (slice_index_or words (r * width + c / 64) 0) (c % 64) == 1)

-- the byte of row r with the bits from 8 * group on
abbrev pub byte_of : ℕ → List ℕ → ℕ → ℕ → ℕ
byte_of width words r group =
    slice_index_or words (r * width + group / 8) 0 / 2 ^ (group % 8 * 8) % 256

-- byte t of symbol c of a list
abbrev pub sum_byte : List (List ℕ) → ℕ → ℕ → ℕ
sum_byte sums t c = slice_index_or (slice_index_or sums c []) t 0

-- byte t of symbol c, where each has `len` bytes
abbrev pub byte_in : ℕ → List ℕ → ℕ → ℕ → ℕ
byte_in len bytes t c = slice_index_or bytes (c * len + t) 0

-- each symbol but that of number c stays
abbrev pub KeepsOthers : ℕ → ℕ → List ℕ → List ℕ → Type 0
KeepsOthers len c symbols now =
    (q t : ℕ) → q ≢ c → t < len → byte_in len now t q ≡ byte_in len symbols t q

-- the equation whose unknowns are the bits of row r, and whose sum is symbol r
abbrev pub packed_equation : ℕ → List ℕ → List (List ℕ) → ℕ → Equation
packed_equation unknowns words sums r = record {
  unknowns = members unknowns (bits_of (width_of unknowns) words r);
  sum = slice_index_or sums r [];
}

-- the system of so many rows and symbols
abbrev pub packed_system : ℕ → ℕ → ℕ → List ℕ → List (List ℕ) → System
packed_system unknowns len rows words sums = record {
  unknowns = unknowns;
  len = len;
  equations = map (packed_equation unknowns words sums) (range_with_len 0 rows);
}

-- a system within the limits: a run of words and a symbol for each row
pub record IsPacked (unknowns len rows : ℕ) (words : List ℕ) (sums : List (List ℕ)) : Type 0 where
  pub row_words : length words ≡ rows * width_of unknowns
  pub row_sums : length sums ≡ rows
  pub symbols : All (IsSymbol len) sums
  pub few_unknowns : unknowns ≤ 65536
  pub few_rows : rows ≤ 65536
  pub some : 1 ≤ len
  pub most : len ≤ 65535

-- so many symbols of `len` bytes, within the limits
pub record AreSymbols (len count : ℕ) (bytes : List ℕ) : Type 0 where
  pub long : length bytes ≡ count * len
  pub few : count ≤ 65536
  pub most : len ≤ 65535
