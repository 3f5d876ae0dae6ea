-- Sets of rows of a parity check matrix whose sum is a statement on symbols that arrived.
use Rattle.std.specs.Prelude.{◌≡◌, ◌≢◌, ◌%◌, ◌<◌, ◌==◌, ℕ, true, List, [], length, All, count_by}
use Rattle.std.specs.List.Sorted.{IsStrictlyIncreasing}
use Rattle.fec_base.specs.Symbol.{xor_sum, zero_symbol}
use Rattle.sparse_rows.specs.Matrix.{Matrix, has_entry}
use Rattle.sparse_rows.specs.Closure.{Set, members}

-- the columns that an odd number of the rows have
abbrev pub odd_columns : Matrix → List ℕ → Set
odd_columns m rows column = count_by (λ r. has_entry m r column) rows % 2 == 1

-- some rows, rising, such that each column that an odd number of them have is in the set
pub record IsClosed (m : Matrix) (s : Set) (rows : List ℕ) : Type 0 where
  pub rising : IsStrictlyIncreasing rows
  pub below : All (λ r. r < length m.rows) rows
  pub nonempty : rows ≢ []
  pub closed : (column : ℕ) → column < m.n → odd_columns m rows column ≡ true → s column ≡ true

-- the symbols that x gives to the columns that an odd number of the rows have don't sum to zero
abbrev pub Contradicts : Matrix → ℕ → (ℕ → List ℕ) → List ℕ → Type 0
Contradicts m len x rows = xor_sum len x (members m.n (odd_columns m rows)) ≢ zero_symbol len
