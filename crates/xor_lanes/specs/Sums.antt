-- Sums of symbols that lie `stride` bytes apart.
use Rattle.std.specs.Prelude.{ℕ, ◌+◌, ◌*◌, List, fold, bit_xor, slice_index_or}

-- byte j of symbol s
abbrev pub byte_at : List ℕ → ℕ → ℕ → ℕ → ℕ
byte_at bytes stride j s = slice_index_or bytes (s * stride + j) 0

-- byte j of symbol `own`, and byte j of the symbol of each column added to it
abbrev pub summed_byte : List ℕ → ℕ → ℕ → List ℕ → ℕ → ℕ
summed_byte bytes stride own columns j =
    fold (λ sum column. bit_xor sum (byte_at bytes stride j column)) (byte_at bytes stride j own)
    columns
