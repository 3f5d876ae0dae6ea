-- Inside: sums of symbols, told byte by byte.
use Rattle.std.specs.Prelude.{◌≡◌, ◌<◌, ℕ, List, [], length, cond, bit_xor, slice_index_or}
use Rattle.std.specs.List.{range_with_len}
use Rattle.sparse_rows.specs.Matrix.{Matrix, is_in, row_of}
use Rattle.sparse_rows.specs.Codeword.{symbol_at}
use Rattle.sparse_rows.specs.Totals.{total}
use Rattle.clash_proof.specs.Evidence.{Kept}

-- byte t of what is kept for a column
abbrev pub kept_byte : Kept → ℕ → ℕ → ℕ
kept_byte ev t column = slice_index_or (symbol_at ev.len ev.symbols column) t 0

-- byte t of the sum of what is kept for the columns of row r
abbrev pub row_byte : Matrix → Kept → ℕ → ℕ → ℕ
row_byte m ev t r = total 0 bit_xor (kept_byte ev t) (row_of m r)

-- byte t of the sum of some rows
abbrev pub rows_byte : Matrix → Kept → ℕ → List ℕ → ℕ
rows_byte m ev t rows = total 0 bit_xor (row_byte m ev t) rows

-- and the same by a walk over all rows
abbrev pub set_byte : Matrix → Kept → ℕ → List ℕ → ℕ
set_byte m ev t rows = total 0 bit_xor (λ r. cond (is_in rows r) (row_byte m ev t r) 0)
    (range_with_len 0 (length m.rows))

-- the symbols are the sums of what is kept for the columns of each row
pub record AreRowSums (m : Matrix) (ev : Kept) (sums : List (List ℕ)) : Type 0 where
  pub count : length sums ≡ length m.rows
  pub long : (r : ℕ) → r < length m.rows → length (slice_index_or sums r []) ≡ ev.len
  pub bytes : (r t : ℕ) → r < length m.rows
      → slice_index_or (slice_index_or sums r []) t 0 ≡ row_byte m ev t r
