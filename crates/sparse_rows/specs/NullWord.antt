-- Null words: codewords of bits that are zero where a symbol is known.
use Rattle.std.specs.Prelude.{◌≡◌, ◌≢◌, ℕ, ◌%◌, ◌<◌, ◌≤◌, false, List, [], ◌∷◌, All, count_by}
use Rattle.std.specs.List.Sorted.{IsStrictlyIncreasing}
use Rattle.sparse_rows.specs.Matrix.{Matrix, is_in}
use Rattle.sparse_rows.specs.Closure.{Set}

-- some columns, rising, of which no one is in the set, and which each row has an even number of
pub record IsNullWord (m : Matrix) (s : Set) (word : List ℕ) : Type 0 where
  pub rising : IsStrictlyIncreasing word
  pub below : All (λ column. column < m.n) word
  pub nonempty : word ≢ []
  pub outside : All (λ column. s column ≡ false) word
  pub even : All (λ row. count_by (is_in word) row % 2 ≡ 0) m.rows

-- the last column of a rising list
abbrev pub last_of : List ℕ → ℕ
last_of [] = 0
last_of (column ∷ []) = column
last_of (c ∷ d ∷ rest) = last_of (d ∷ rest)

-- the null word whose last column is least
pub record IsFirstNullWord (m : Matrix) (s : Set) (word : List ℕ) : Type 0 where
  pub null : IsNullWord m s word
  pub least : (other : List ℕ) → IsNullWord m s other → last_of word ≤ last_of other
