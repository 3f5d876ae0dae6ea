-- The codes that are built of a file's blocks.
use Rattle.std.specs.Prelude.{All, Any, List, None, Option, Some, length, slice_index_or, ℕ, ⊤, ◌<◌}
use Rattle.std.specs.Prelude.{◌≡◌, ◌⊎◌}
use Rattle.packet_file.specs.Header.{HeaderFields, source_counts, symbol_count}
use Rattle.packet_file.specs.Packets.{block_symbols}
use Rattle.sparse_rows.specs.Matrix.{IsCode, Matrix}
use Rattle.object_file.specs.Codes.{IsFirstOver, count_at, header_matrix}
use Rattle.tool_base.specs.declared.causes.Refusal.{Refusal}
use Rattle.tool_base.specs.declared.causes.Refusal.TheVariants.{Draws, File, Memory, Watch}

-- each matrix is that of the blocks with its number of source symbols
abbrev pub AreMatrices : HeaderFields → Option ℕ → List Matrix → Type 0
AreMatrices h draws matrices = All (λ m. header_matrix h draws m.k ≡ Some m) matrices

-- one of the matrices has k source symbols
abbrev pub HasSize : List Matrix → ℕ → Type 0
HasSize matrices k = Any (λ m. m.k ≡ k) matrices

-- the matrices are those of the file's blocks, each with one of its size among them
pub record AreCodes (h : HeaderFields) (draws : Option ℕ) (matrices : List Matrix) : Type 0 where
  pub built : AreMatrices h draws matrices
  pub sized : All (λ m. m.n ≡ symbol_count h m.k) matrices
  pub shaped : All IsCode matrices
  pub each : (b : ℕ) → b < length (source_counts h) → HasSize matrices (count_at h b)

-- no code was built of block b: memory lacked, or it takes more draws than there may be
abbrev pub RefusesCode : HeaderFields → Option ℕ → ℕ → Refusal → Type 0
RefusesCode h draws b refusal = (refusal ≡ Memory)
    ⊎ ((refusal ≡ Draws b) × (header_matrix h draws (count_at h b) ≡ None))

-- no codes were built of the blocks: memory lacked, or this is the first that takes more draws than
-- there may be
abbrev pub RefusesCodes : HeaderFields → Option ℕ → Refusal → Type 0
RefusesCodes h draws Memory = ⊤
RefusesCodes h draws (Draws b) = IsFirstOver h draws b
RefusesCodes h draws (File fault) = ⊥
RefusesCodes h draws Watch = ⊥

-- the matrices of the file's blocks, in order
pub record AreBlockCodes (h : HeaderFields) (draws : Option ℕ) (matrices : List Matrix) : Type 0
  where
    pub counted : length matrices ≡ length (source_counts h)
    pub built : (b : ℕ) (m : Matrix) → b < length matrices
        → header_matrix h draws (count_at h b) ≡ Some (slice_index_or matrices b m)
    pub sources : (b : ℕ) (m : Matrix) → b < length matrices
        → (slice_index_or matrices b m).k ≡ count_at h b
    pub symbols : (b : ℕ) (m : Matrix) → b < length matrices
        → (slice_index_or matrices b m).n ≡ block_symbols h b
