-- Inside: what is read off from the reduced form of a residue.
use Rattle.std.specs.Prelude.{◌≡◌, ◌≢◌, ◌<◌, ℕ, true, false, List, [], length, map, slice_index}
use Rattle.std.specs.Prelude.{slice_index_or, Contains}
use Rattle.sparse_rows.specs.Codeword.{Arrival}
use Rattle.sparse_rows.specs.Closure.{flagged}
use Rattle.peeling.specs.Decoder.{Decoder, IsDecoder, kept}
use Rattle.peeling.specs.Stands.{StandsFor}
use Rattle.gauss.specs.Reduction.{IsFirstWith, IsReducedForm, ReducedForm, is_open, set_at}
use Rattle.fec_session.specs.Residue.{columns_at, place, residue}
use Rattle.partial_block.specs.Saved.{Saved, saved_at, through_at}
use Rattle.partial_block.specs.Surveys.{IsSurvey}
use Rattle.partial_block.specs.declared.outcome.Survey.TheVariants as answer
use Rattle.partial_block.specs.declared.saved.Piece.{Piece}
use Rattle.partial_block.specs.declared.saved.Piece.TheVariants as piece

-- the bytes of a source symbol: those that are kept, or else those that all solutions share
abbrev pub AreBytes : Decoder → ReducedForm → ℕ → List ℕ → Type 0
AreBytes d r e bytes = (flagged d.known e ≡ true → bytes ≡ kept d e)
    × (flagged d.known e ≡ false → (is_open r (place d e) ≡ false)
    × (bytes ≡ slice_index_or r.symbols (place d e) []))

-- the symbol isn't known, and null set i is the first that holds it
abbrev pub IsOpenBy : Decoder → ReducedForm → ℕ → ℕ → Type 0
IsOpenBy d r e i = (flagged d.known e ≡ false) × IsFirstWith r (place d e) i

-- what is read off of source symbol e
abbrev pub IsPieceOf : Decoder → ReducedForm → ℕ → Piece → Type 0
IsPieceOf d r e (piece.Determined bytes) = AreBytes d r e bytes.items
IsPieceOf d r e (piece.Open number) = IsOpenBy d r e number

-- and of all of them
pub record ArePieces (d : Decoder) (r : ReducedForm) (pieces : List Piece) : Type 0 where
  pub count : length pieces ≡ d.matrix.k
  pub each : (e : ℕ) (x : Piece) → e < d.matrix.k → IsPieceOf d r e (slice_index_or pieces e x)

-- for each null set that some piece is open by, the columns at its places
pub record AreNullWords (columns : List ℕ) (r : ReducedForm) (pieces : List Piece)
    (words : List (List ℕ)) : Type 0 where
  pub count : length words ≡ length r.sets
  pub each : (i : ℕ) → i < length r.sets → Contains pieces (piece.Open i)
      → slice_index_or words i [] ≡ map (slice_index columns) (set_at r i)

-- so each source symbol has its bytes, or the columns of the first null set that holds it
pub record IsReadOff (d : Decoder) (r : ReducedForm) (saved : Saved) : Type 0 where
  pub symbols : length saved.symbols ≡ d.matrix.k
  pub throughs : length saved.throughs ≡ d.matrix.k
  pub determined : (e : ℕ) → e < d.matrix.k → through_at saved e ≡ []
      → AreBytes d r e (saved_at saved e)
  pub through : (e : ℕ) → e < d.matrix.k → through_at saved e ≢ []
      → (i : ℕ) × IsOpenBy d r e i × (through_at saved e ≡ columns_at d (set_at r i))

-- what is read off is what the arrivals save
abbrev pub ReadOffIsSaved : Type 0
ReadOffIsSaved = (d : Decoder) (arrivals : List Arrival) (r : ReducedForm) (saved : Saved)
    → IsDecoder d → StandsFor d arrivals → d.clashed ≡ false → IsReducedForm (residue d) r
    → IsReadOff d r saved → IsSurvey d.matrix d.len arrivals (answer.Sources saved)
