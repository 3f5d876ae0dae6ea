-- Codewords that fit, and solutions of what peeling leaves.
use Rattle.std.specs.Prelude.{◌≡◌, ◌<◌, ℕ, false, List, length, slice_index}
use Rattle.sparse_rows.specs.Codeword.{Arrival, symbol_at}
use Rattle.sparse_rows.specs.Fitting.{IsFitting}
use Rattle.peeling.specs.Decoder.{Decoder, IsDecoder}
use Rattle.peeling.specs.Stands.{StandsFor}
use Rattle.gauss.specs.Equations.{IsSolution}
use Rattle.fec_session.specs.Residue.{filled, residue, unknown_columns}

-- the symbols of a word at the unknown columns, by their places
abbrev pub open_symbols : Decoder → List (List ℕ) → ℕ → List ℕ
open_symbols d word i = symbol_at d.len word (slice_index (unknown_columns d) i)

-- the codewords that fit the arrivals pair one to one with the solutions of the residue
pub record IsPairing (d : Decoder) (arrivals : List Arrival) : Type 0 where
  -- each codeword that fits gives a solution, and each solution a codeword that fits
  pub solution : (word : List (List ℕ)) → IsFitting d.matrix d.len arrivals word
      → IsSolution (residue d) (open_symbols d word)
  pub codeword : (y : ℕ → List ℕ) → IsSolution (residue d) y
      → IsFitting d.matrix d.len arrivals (filled d y)
  -- and each of the two ways undoes the other
  pub same_codeword : (word : List (List ℕ)) → IsFitting d.matrix d.len arrivals word
      → filled d (open_symbols d word) ≡ word
  pub same_solution : (y : ℕ → List ℕ) → IsSolution (residue d) y
      → (i : ℕ) → i < length (unknown_columns d) → open_symbols d (filled d y) i ≡ y i

-- so it is at each decoder that isn't clashed
abbrev pub CodewordsPairWithSolutions : Type 0
CodewordsPairWithSolutions =
    (d : Decoder) (arrivals : List Arrival) → IsDecoder d → StandsFor d arrivals
    → d.clashed ≡ false → IsPairing d arrivals
