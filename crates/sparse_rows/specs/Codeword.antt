-- Codewords of a parity check matrix.
use Rattle.std.specs.Prelude.{◌≡◌, ℕ, ◌==◌, Bool, true, List, length, take, slice_index_or, All}
use Rattle.std.specs.List.{list_any}
use Rattle.fec_base.specs.Symbol.{IsSymbol, zero_symbol, xor_sum}
use Rattle.sparse_rows.specs.Matrix.{Matrix}

-- the symbol at a column, zero past the end
abbrev pub symbol_at : ℕ → List (List ℕ) → ℕ → List ℕ
symbol_at len word column = slice_index_or word column (zero_symbol len)

-- the symbols that x gives to the row's columns sum to zero
abbrev pub SumsToZero : ℕ → (ℕ → List ℕ) → List ℕ → Type 0
SumsToZero len x row = xor_sum len x row ≡ zero_symbol len

-- n symbols such that the symbols of each row sum to zero
pub record IsCodeword (m : Matrix) (len : ℕ) (word : List (List ℕ)) : Type 0 where
  pub count : length word ≡ m.n
  pub symbols : All (IsSymbol len) word
  pub rows : All (SumsToZero len (symbol_at len word)) m.rows

-- the codeword whose first k symbols are the source
pub record IsEncoded (m : Matrix) (len : ℕ) (source word : List (List ℕ)) : Type 0 where
  pub codeword : IsCodeword m len word
  pub source_is : take m.k word ≡ source

-- x gives each column a symbol
abbrev pub IsAssignment : ℕ → (ℕ → List ℕ) → Type 0
IsAssignment len x = (column : ℕ) → IsSymbol len (x column)

-- the symbols that x gives to each row that lies within the set sum to zero
abbrev pub SumsToZeroWithin : Matrix → ℕ → (ℕ → Bool) → (ℕ → List ℕ) → Type 0
SumsToZeroWithin m len t x = All (λ row. All (λ column. t column ≡ true) row
    → SumsToZero len x row) m.rows

-- an arrival: a position and the bytes that came for it
abbrev pub Arrival : Type 0
Arrival = ℕ × List ℕ

-- the word has at each position that arrived the bytes that came for it
abbrev pub Fits : List Arrival → (ℕ → List ℕ) → Type 0
Fits arrivals x = All (λ (a : Arrival). x a.0 ≡ a.1) arrivals

-- the set of the positions that arrived
abbrev pub positions : List Arrival → ℕ → Bool
positions arrivals column = list_any (λ (a : Arrival). a.0 == column) arrivals
