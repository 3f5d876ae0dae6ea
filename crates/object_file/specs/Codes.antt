-- The codes of a file's source blocks.
use Rattle.std.specs.Option.{option_map}
use Rattle.std.specs.Prelude.{None, Option, Some, length, slice_index, ℕ, ◌<◌, ◌≡◌}
use Rattle.packet_file.specs.Header.{HeaderFields, source_counts}
use Rattle.sparse_rows.specs.Matrix.{Matrix}
use Rattle.tool_base.specs.BlockCode.{block_matrix}

-- the parity check matrix of a block of k source symbols; none where it takes more draws than there
-- may be
abbrev pub header_matrix : HeaderFields → Option ℕ → ℕ → Option Matrix
header_matrix h draws k = option_map (λ counted. counted.matrix) (block_matrix h draws k)

-- how many source symbols block b has
abbrev pub count_at : HeaderFields → ℕ → ℕ
count_at h b = slice_index (source_counts h) b

-- block b has a matrix
abbrev pub HasMatrix : HeaderFields → Option ℕ → ℕ → Type 0
HasMatrix h draws b = (m : Matrix) × (header_matrix h draws (count_at h b) ≡ Some m)

-- block b is the first whose matrix takes more draws than there may be
pub record IsFirstOver (h : HeaderFields) (draws : Option ℕ) (b : ℕ) : Type 0 where
  pub block : b < length (source_counts h)
  pub over : header_matrix h draws (count_at h b) ≡ None
  pub before : (i : ℕ) → i < b → HasMatrix h draws i
