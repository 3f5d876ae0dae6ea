-- The least prefix of an order of positions that determines a block.
use Rattle.std.specs.Prelude.{◌≤◌, ℕ, List, take, length}
use Rattle.sparse_rows.specs.Matrix.{Matrix, is_in}
use Rattle.sparse_rows.specs.Closure.{Set}
use Rattle.sparse_rows.specs.NullWord.{IsNullWord}

-- some null word of the set exists
abbrev pub HasNullWord : Matrix → Set → Type 0
HasNullWord m s = (word : List ℕ) × IsNullWord m s word

-- the first p items have no null word, and p is the least such number
pub record IsLeastPrefix (m : Matrix) (order : List ℕ) (p : ℕ) : Type 0 where
  pub within : p ≤ length order
  pub none : ¬ HasNullWord m (is_in (take p order))
  pub least : (q : ℕ) → ¬ HasNullWord m (is_in (take q order)) → p ≤ q
