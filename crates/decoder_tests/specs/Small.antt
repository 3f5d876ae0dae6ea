-- Inside: the codes and decoders that the tests make, whose symbols have one byte.
use Rattle.std.specs.Prelude.{◌≡◌, ◌<◌, ◌≤◌, ℕ, List, length, slice_index_or}
use Rattle.sparse_rows.specs.Matrix.{Matrix}
use Rattle.peeling.specs.Decoder.{Decoder}

-- three source symbols and four repair symbols
pub record IsThreeOfSeven (d : Decoder) : Type 0 where
  pub k : d.matrix.k ≡ 3
  pub n : d.matrix.n ≡ 7
  pub byte : d.len ≡ 1

-- at least three source symbols and four symbols
pub record IsSmallCode (m : Matrix) : Type 0 where
  pub source : 3 ≤ m.k
  pub symbols : 4 ≤ m.n

-- three such codes
pub record AreSmallCodes (codes : List Matrix) : Type 0 where
  pub three : length codes ≡ 3
  pub each : (b : ℕ) (m : Matrix) → b < 3 → IsSmallCode (slice_index_or codes b m)

-- three decoders of such codes
pub record AreSmall (decoders : List Decoder) : Type 0 where
  pub three : length decoders ≡ 3
  pub each : (b : ℕ) (d : Decoder) → b < 3 → IsSmallCode (slice_index_or decoders b d).matrix
  pub byte : (b : ℕ) (d : Decoder) → b < 3 → (slice_index_or decoders b d).len ≡ 1
