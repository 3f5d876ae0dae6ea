-- Inside: families of words of which each two sum to another.
use Rattle.std.specs.Prelude.{◌≡◌, ◌≢◌, ℕ, Bool, true, false, not, List, []}
use Rattle.std.specs.List.Sorted.{IsStrictlyIncreasing}
use Rattle.sparse_rows.specs.Matrix.{is_in}

-- whether exactly one of two facts holds
abbrev pub just_one : Bool → Bool → Bool
just_one true second = not second
just_one false second = second

-- the word has what exactly one of the two has
pub record IsSumOf (a b word : List ℕ) : Type 0 where
  pub rising : IsStrictlyIncreasing word
  pub either : (position : ℕ)
      → is_in word position ≡ just_one (is_in a position) (is_in b position)

-- the words rise and aren't empty, and each that is the sum of two that differ is one
pub record IsLinear (words : List ℕ → Type 0) : Type 0 where
  pub rising : (word : List ℕ) → words word → IsStrictlyIncreasing word
  pub nonempty : (word : List ℕ) → words word → word ≢ []
  pub sums : (a b word : List ℕ) → words a → words b → a ≢ b → IsSumOf a b word → words word
