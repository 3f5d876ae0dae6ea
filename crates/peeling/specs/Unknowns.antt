-- Inside: what a row has left, and the sum of what it has seen.
use Rattle.std.specs.Prelude.{◌≡◌, ◌<◌, ◌%◌, ℕ, List, [], ◌∷◌, length, filter, bit_xor}
use Rattle.std.specs.Prelude.{slice_index_or}
use Rattle.std.specs.Prelude.{All}
use Rattle.fec_base.specs.Symbol.{IsSymbol, xor_sum}
use Rattle.sparse_rows.specs.Matrix.{Matrix, row_of}
use Rattle.sparse_rows.specs.Codeword.{symbol_at}
use Rattle.sparse_rows.specs.Closure.{Set, outside}
use Rattle.peeling.specs.declared.unknowns.Unknowns.{Unknowns}

-- the XOR of the columns
abbrev pub xor_of : List ℕ → ℕ
xor_of [] = 0
xor_of (column ∷ columns) = bit_xor column (xor_of columns)

-- the number of the columns, as far as 16 bits hold it, and their XOR
abbrev pub unknowns_of : List ℕ → Unknowns
unknowns_of columns = record { count = length columns % 65536; columns = xor_of columns }

-- each row i has left its columns outside seen i, and its sum is that of its columns in seen i
pub record IsCounted (m : Matrix) (len : ℕ) (seen : ℕ → Set) (x : ℕ → List ℕ)
    (rows : List Unknowns) (sums : List (List ℕ)) : Type 0 where
  pub count : length rows ≡ length m.rows
  pub long : length sums ≡ length m.rows
  pub each : All (IsSymbol len) sums
  pub left : (i : ℕ) (d : Unknowns) → i < length m.rows
      → slice_index_or rows i d ≡ unknowns_of (outside (seen i) (row_of m i))
  pub sum : (i : ℕ) → i < length m.rows
      → symbol_at len sums i ≡ xor_sum len x (filter (seen i) (row_of m i))
