-- The peeling closure of a set of columns. A set of columns is a test.
use Rattle.std.specs.Prelude.{◌≡◌, ℕ, zero, suc, ◌==◌, ◌&&◌, ◌||◌, not, Bool, true, false, List, []}
use Rattle.std.specs.Prelude.{◌∷◌, filter, slice_index_or}
use Rattle.std.specs.List.{list_any, range_with_len}
use Rattle.sparse_rows.specs.Matrix.{Matrix}

-- a set of columns
abbrev pub Set : Type 0
Set = ℕ → Bool

-- the set of the columns whose flag is set
abbrev pub flagged : List Bool → Set
flagged flags column = slice_index_or flags column false

-- each member of the one set is a member of the other
abbrev pub IsWithin : Set → Set → Type 0
IsWithin s t = (column : ℕ) → s column ≡ true → t column ≡ true

-- the sets have the same members
abbrev pub HasSameMembers : Set → Set → Type 0
HasSameMembers s t = (column : ℕ) → s column ≡ t column

-- the members below n, rising
abbrev pub members : ℕ → Set → List ℕ
members n s = filter s (range_with_len 0 n)

-- the columns of the row that are outside the set
abbrev pub outside : Set → List ℕ → List ℕ
outside s row = filter (λ column. not (s column)) row

-- whether the list holds this column alone
abbrev pub is_single : ℕ → List ℕ → Bool
is_single column [] = false
is_single column (c ∷ []) = c == column
is_single column (c ∷ d ∷ rest) = false

-- the set with each column that is the only one of some row outside the set, for all rows at once
abbrev pub round : Matrix → Set → Set
round m s column = s column || list_any (λ row. is_single column (outside s row)) m.rows

-- the set after some rounds
abbrev pub rounds : Matrix → ℕ → Set → Set
rounds m zero s = s
rounds m (suc i) s = round m (rounds m i s)

-- the set after n rounds
abbrev pub closure : Matrix → Set → Set
closure m s = rounds m m.n s

-- the set with one more column
abbrev pub adding : ℕ → Set → Set
adding column s c = s c || (column == c)

-- what a column's arrival adds to the closure beside itself, rising
abbrev pub fresh : Matrix → Set → ℕ → List ℕ
fresh m s column = members m.n
    (λ c. closure m (adding column s) c && not (column == c) && not (closure m s c))
