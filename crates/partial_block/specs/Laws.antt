-- What null words show of a position.
use Rattle.std.specs.Prelude.{◌≡◌, ◌≤◌, ◌↔◌, ℕ, true, false, List}
use Rattle.sparse_rows.specs.Matrix.{Matrix, HasShape, is_in}
use Rattle.sparse_rows.specs.Codeword.{Arrival, positions}
use Rattle.sparse_rows.specs.Closure.{Set}
use Rattle.sparse_rows.specs.NullWord.{IsNullWord}
use Rattle.sparse_rows.specs.Fitting.{IsFitting}
use Rattle.partial_block.specs.Through.{IsThrough, IsDetermined}

-- some null word holds a position exactly where there is a null word through it
abbrev pub NullWordsGoThrough : Type 0
NullWordsGoThrough = (m : Matrix) (s : Set) (position : ℕ)
    → ((word : List ℕ) × IsNullWord m s word × (is_in word position ≡ true))
    ↔ ((word : List ℕ) × IsThrough m s position word)

-- and there is only one through it
abbrev pub ThroughIsOne : Type 0
ThroughIsOne = (m : Matrix) (s : Set) (position : ℕ) (word other : List ℕ)
    → IsThrough m s position word → IsThrough m s position other → word ≡ other

-- where some codeword fits, a position is determined exactly where no null word of the positions
-- that arrived holds it
abbrev pub DeterminedByNullWords : Type 0
DeterminedByNullWords = (m : Matrix) (len : ℕ) (arrivals : List Arrival)
    (fitting : List (List ℕ)) (position : ℕ) → HasShape m → 1 ≤ len
    → IsFitting m len arrivals fitting
    → IsDetermined m len arrivals position
    ↔ ((word : List ℕ) → IsNullWord m (positions arrivals) word → is_in word position ≡ false)
