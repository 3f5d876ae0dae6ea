-- Inside: how what is saved is kept.
use Rattle.std.specs.Prelude.{◌≢◌, ◌<◌, ℕ, List, [], ⊤, map, length, slice_index_or}
use Rattle.partial_block.specs.Saved.{Saved}
use Rattle.partial_block.specs.declared.saved.Piece.{Piece}
use Rattle.partial_block.specs.declared.saved.Piece.TheVariants as piece

-- the bytes of a piece, and none where it is open
abbrev pub bytes_of : Piece → List ℕ
bytes_of (piece.Determined bytes) = bytes.items
bytes_of (piece.Open number) = []

-- the word whose number an open piece has, and no positions where the piece is determined
abbrev pub word_of : List (List ℕ) → Piece → List ℕ
word_of words (piece.Determined bytes) = []
word_of words (piece.Open number) = slice_index_or words number []

-- the bytes and words of the pieces
abbrev pub saved_of : List Piece → List (List ℕ) → Saved
saved_of pieces words =
    record { symbols = map bytes_of pieces; throughs = map (word_of words) pieces }

-- an open piece has a number below this one
abbrev pub HasNumberBelow : ℕ → Piece → Type 0
HasNumberBelow count (piece.Determined bytes) = ⊤
HasNumberBelow count (piece.Open number) = number < count

-- an open piece has the number of a word, which has positions
abbrev pub HasWord : List (List ℕ) → Piece → Type 0
HasWord words (piece.Determined bytes) = ⊤
HasWord words (piece.Open number) =
    (number < length words) × (slice_index_or words number [] ≢ [])
