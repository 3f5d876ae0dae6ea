-- Null words of what arrived, and null sets of what peeling leaves.
use Rattle.std.specs.Prelude.{◌≡◌, ◌<◌, ◌↔◌, ℕ, false, List, length, slice_index}
use Rattle.sparse_rows.specs.Codeword.{Arrival, positions}
use Rattle.sparse_rows.specs.Closure.{flagged}
use Rattle.sparse_rows.specs.NullWord.{IsNullWord}
use Rattle.null_witness.specs.ReducedWords.{IsLate}
use Rattle.peeling.specs.Decoder.{Decoder, IsDecoder}
use Rattle.peeling.specs.Stands.{StandsFor}
use Rattle.gauss.specs.Reduction.{IsNullSet}
use Rattle.fec_session.specs.Residue.{columns_at, place, places_of, residue, unknown_columns}

-- a column whose symbol isn't known
abbrev pub IsUnknownColumn : Decoder → ℕ → Type 0
IsUnknownColumn d column = (column < d.matrix.n) × (flagged d.known column ≡ false)

-- the places are those of the unknown columns, one each, and rise with them
pub record HasPlaces (d : Decoder) : Type 0 where
  pub column : (i : ℕ) → i < length (unknown_columns d)
      → IsUnknownColumn d (slice_index (unknown_columns d) i)
  pub inside : (c : ℕ) → IsUnknownColumn d c → place d c < length (unknown_columns d)
  pub same_column : (c : ℕ) → IsUnknownColumn d c
      → slice_index (unknown_columns d) (place d c) ≡ c
  pub same_place : (i : ℕ) → i < length (unknown_columns d)
      → place d (slice_index (unknown_columns d) i) ≡ i
  pub rising : (b c : ℕ) → IsUnknownColumn d b → b < c → place d b < place d c

-- so they are at each decoder
abbrev pub PlacesAreOfColumns : Type 0
PlacesAreOfColumns = (d : Decoder) → HasPlaces d

-- the null words of the positions that arrived pair one to one with the null sets of the residue
pub record IsNullPairing (d : Decoder) (arrivals : List Arrival) : Type 0 where
  -- the places of a null word are a null set, and the columns at a null set a null word
  pub set : (word : List ℕ) → IsNullWord d.matrix (positions arrivals) word
      → IsNullSet (residue d) (places_of d word)
  pub word : (set : List ℕ) → IsNullSet (residue d) set
      → IsNullWord d.matrix (positions arrivals) (columns_at d set)
  -- and each of the two ways undoes the other
  pub same_word : (word : List ℕ) → IsNullWord d.matrix (positions arrivals) word
      → columns_at d (places_of d word) ≡ word
  pub same_set : (set : List ℕ) → IsNullSet (residue d) set
      → places_of d (columns_at d set) ≡ set
  -- a null word ends at a column exactly where that is unknown and a null set ends at its place,
  pub late_word : (c : ℕ) → IsLate (IsNullWord d.matrix (positions arrivals)) c
      ↔ IsUnknownColumn d c × IsLate (IsNullSet (residue d)) (place d c)
  -- and a null set at a place exactly where a null word ends at its column
  pub late_set : (i : ℕ) → IsLate (IsNullSet (residue d)) i
      ↔ (i < length (unknown_columns d))
      × IsLate (IsNullWord d.matrix (positions arrivals)) (slice_index (unknown_columns d) i)

-- so it is at each decoder
abbrev pub NullWordsPairWithNullSets : Type 0
NullWordsPairWithNullSets =
    (d : Decoder) (arrivals : List Arrival) → IsDecoder d → StandsFor d arrivals
    → IsNullPairing d arrivals
