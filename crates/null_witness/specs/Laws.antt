-- What holds of null words.
use Rattle.std.specs.Prelude.{◌≡◌, ◌≤◌, ℕ, ◌↔◌, List}
use Rattle.sparse_rows.specs.Matrix.{Matrix, HasShape}
use Rattle.sparse_rows.specs.Codeword.{Arrival, positions}
use Rattle.sparse_rows.specs.Closure.{Set, IsWithin, closure}
use Rattle.sparse_rows.specs.NullWord.{IsNullWord, IsFirstNullWord, last_of}
use Rattle.sparse_rows.specs.Fitting.{IsFitting, IsUndetermined}
use Rattle.null_witness.specs.ReducedWords.{IsLate, IsReducedWord}

-- a null word of a set is a null word of each of its subsets
abbrev pub NullWordOfSubset : Type 0
NullWordOfSubset = (m : Matrix) (small large : Set) (word : List ℕ) → IsWithin small large
    → IsNullWord m large word → IsNullWord m small word

-- a set and its closure have the same null words
abbrev pub ClosureHasSameNullWords : Type 0
ClosureHasSameNullWords = (m : Matrix) (s : Set) (word : List ℕ)
    → IsNullWord m s word ↔ IsNullWord m (closure m s) word

-- at most one null word is the first
abbrev pub FirstNullWordIsOne : Type 0
FirstNullWordIsOne = (m : Matrix) (s : Set) (word other : List ℕ) → HasShape m
    → IsFirstNullWord m s word → IsFirstNullWord m s other → word ≡ other

-- where some codeword fits, codewords of two sources fit exactly where the positions that arrived
-- have a null word
abbrev pub UndeterminedByNullWord : Type 0
UndeterminedByNullWord = (m : Matrix) (len : ℕ) (arrivals : List Arrival) (fitting : List (List ℕ))
    → HasShape m → 1 ≤ len → IsFitting m len arrivals fitting
    → IsUndetermined m len arrivals ↔ ((word : List ℕ) × IsNullWord m (positions arrivals) word)

-- at each position where a null word ends a reduced null word does
abbrev pub LateHasReducedWord : Type 0
LateHasReducedWord = (m : Matrix) (s : Set) (position : ℕ) → IsLate (IsNullWord m s) position
    → (word : List ℕ) × IsReducedWord (IsNullWord m s) word × (last_of word ≡ position)

-- and only one
abbrev pub LateHasOneReducedWord : Type 0
LateHasOneReducedWord = (m : Matrix) (s : Set) (word other : List ℕ)
    → IsReducedWord (IsNullWord m s) word → IsReducedWord (IsNullWord m s) other
    → last_of word ≡ last_of other → word ≡ other
