-- The columns of a row, and what it has left, are positions.
use Rattle.std.proofs.Common.{◌≡◌, ℕ, ◌+◌, ◌-◌, ◌<◌, ◌≤◌, not, List, [], ◌∷◌, All, length, get_or}
use Rattle.std.proofs.Common.{subst, arith}
use Rattle.std.proofs.lemmas.List.Elements.{All-filter, All-head}
use Rattle.sparse_rows.specs.Matrix.{Matrix, IsRow, IsCode, row_of}
use Rattle.sparse_rows.specs.Closure.{Set, outside}
use Rattle.sparse_rows.proofs.Shape.{row_below}

-- the columns of a code's row are positions
pub column_below : (m : Matrix) → IsCode m → (r : ℕ) → r < m.n - m.k → (i : ℕ)
    → i < length (row_of m r) → get_or (row_of m r) i 0 < m.n
column_below m code r lt i inside =
    let row : IsRow m.k (m.k + r) (row_of m r) =
    code.shape.row r (omega (arith, code.shape.count)) in
    let most : get_or (row_of m r) i 0 ≤ m.k + r = row.within i 0 inside in
    omega (arith, code.shape.count)

-- a column that was read is a position
pub column_read : (m : Matrix) → IsCode m → (r : ℕ) → r < m.n - m.k → (i c : ℕ)
    → i < length (row_of m r) → c ≡ get_or (row_of m r) i 0 → c < m.n
column_read m code r lt i c inside is = omega (arith, is, column_below m code r lt i inside)

-- a single column is a position
pub single_below : (m : Matrix) → IsCode m → (r : ℕ) → r < m.n - m.k → (s : Set) (c : ℕ)
    → outside s (row_of m r) ≡ c ∷ [] → c < m.n
single_below m code r lt s c one =
    let below : All (λ d. d < m.n) (outside s (row_of m r)) = All-filter (λ d. not (s d))
    (λ d. d < m.n) (row_of m r) (row_below m code.shape r (omega (arith, code.shape.count))) in
    All-head (λ d. d < m.n) c [] (subst (λ (row : List ℕ). All (λ (d : ℕ). d < m.n) row) one below)
