-- Inside: how the rows that are left to choose from are kept.
use Rattle.std.specs.Prelude.{◌≡◌, ℕ, ◌<◌, ◌≤◌, ◌==◌, List, length, drop, count_by, slice_index}
use Rattle.std.specs.Prelude.{All}
use Rattle.park_miller.specs.declared.generator.TheConstants.{MAX_BOUND}
use Rattle.park_miller.specs.LimitedDraws.{LimitedDraws}
use Rattle.sparse_rows.specs.Matrix.{Matrix, has_entry}
use Rattle.staircase.specs.LeftSide.{Filling}

-- rows to choose from, each below the number of rows, in the order in which they are kept
pub record RowList : Type 0 where
  pub rows : ℕ
  pub list : List ℕ

-- what is left are the items from a limit on, and each row has the count of the items that are it
pub record IsCounted (first : ℕ) (items counts : List ℕ) : Type 0 where
  pub within : first ≤ length items
  pub most : length items ≤ MAX_BOUND
  pub few : length counts ≤ 65536
  pub below : All (λ row. row < length counts) (drop first items)
  pub counted : (r : ℕ) → r < length counts
      → slice_index counts r ≡ count_by (λ row. row == r) (drop first items)

-- a matrix that is being filled from such rows
abbrev pub filling : Matrix → RowList → LimitedDraws → Filling
filling m choices g = record { matrix = m; rest = choices.list; draws = g }

-- how many of the choices are rows that have column c already
abbrev pub blocked_count : Matrix → ℕ → List ℕ → ℕ
blocked_count m c list = count_by (λ r. has_entry m r c) list
