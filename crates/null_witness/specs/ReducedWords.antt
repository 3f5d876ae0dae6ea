-- Words of which each two sum to another: where they end, and which of them are reduced. A word is
-- a rising list of positions.
use Rattle.std.specs.Prelude.{◌≡◌, ◌≤◌, ◌↔◌, ℕ, true, List}
use Rattle.std.specs.List.Sorted.{IsStrictlyIncreasing}
use Rattle.sparse_rows.specs.Matrix.{is_in}
use Rattle.sparse_rows.specs.NullWord.{last_of}

-- some word ends at the position
abbrev pub IsLate : (List ℕ → Type 0) → ℕ → Type 0
IsLate words position = (word : List ℕ) × words word × (last_of word ≡ position)

-- the positions where words end, rising
pub record AreLate (words : List ℕ → Type 0) (late : List ℕ) : Type 0 where
  pub rising : IsStrictlyIncreasing late
  pub each : (position : ℕ) → (is_in late position ≡ true) ↔ IsLate words position

-- a word that holds no position where another word ends
pub record IsReducedWord (words : List ℕ → Type 0) (word : List ℕ) : Type 0 where
  pub one : words word
  pub only : (position : ℕ) → IsLate words position → is_in word position ≡ true
      → position ≡ last_of word

-- of the reduced words of a kind the one whose last position is least
pub record IsFirstReducedWord (words kind : List ℕ → Type 0) (word : List ℕ) : Type 0 where
  pub reduced : IsReducedWord words word
  pub of_kind : kind word
  pub least : (other : List ℕ) → IsReducedWord words other → kind other
      → last_of word ≤ last_of other
