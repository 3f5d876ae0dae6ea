-- Symbols that agree on a set of columns.
use Rattle.std.specs.Prelude.{◌≡◌, ℕ, true, List}
use Rattle.sparse_rows.specs.Closure.{Set}

-- what x and y give to each member of the set is alike
abbrev pub Agree : Set → (ℕ → List ℕ) → (ℕ → List ℕ) → Type 0
Agree s x y = (column : ℕ) → s column ≡ true → x column ≡ y column
