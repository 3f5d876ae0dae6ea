-- What holds of closed row sets.
use Rattle.std.specs.Prelude.{◌≡◌, ◌<◌, ◌↔◌, ℕ, List, All}
use Rattle.sparse_rows.specs.Matrix.{Matrix, HasShape}
use Rattle.sparse_rows.specs.Codeword.{Arrival, Fits, IsAssignment, positions}
use Rattle.sparse_rows.specs.Closure.{Set}
use Rattle.sparse_rows.specs.NullWord.{last_of}
use Rattle.sparse_rows.specs.Fitting.{IsFitting}
use Rattle.null_witness.specs.ReducedWords.{IsLate, IsReducedWord}
use Rattle.clash_proof.specs.RowSets.{IsClosed, Contradicts}

-- at each row where a closed row set ends a reduced one does
abbrev pub LateHasReducedSet : Type 0
LateHasReducedSet = (m : Matrix) (s : Set) (row : ℕ) → IsLate (IsClosed m s) row
    → (rows : List ℕ) × IsReducedWord (IsClosed m s) rows × (last_of rows ≡ row)

-- and only one
abbrev pub LateHasOneReducedSet : Type 0
LateHasOneReducedSet = (m : Matrix) (s : Set) (rows other : List ℕ)
    → IsReducedWord (IsClosed m s) rows → IsReducedWord (IsClosed m s) other
    → last_of rows ≡ last_of other → rows ≡ other

-- where the arrivals don't conflict, so that some symbols x agree with all of them, no codeword
-- fits exactly where some closed row set contradicts them
abbrev pub RefutedByRows : Type 0
RefutedByRows = (m : Matrix) (len : ℕ) (arrivals : List Arrival) (x : ℕ → List ℕ) → HasShape m
    → All (λ (a : Arrival). a.0 < m.n) arrivals → IsAssignment len x → Fits arrivals x
    → ((word : List (List ℕ)) → ¬ IsFitting m len arrivals word)
    ↔ ((rows : List ℕ) × IsClosed m (positions arrivals) rows × Contradicts m len x rows)

-- and then the reduced set of some late row does
abbrev pub RefutedByReducedSet : Type 0
RefutedByReducedSet = (m : Matrix) (len : ℕ) (s : Set) (x : ℕ → List ℕ) (rows : List ℕ)
    → HasShape m → IsAssignment len x → IsClosed m s rows → Contradicts m len x rows
    → (reduced : List ℕ) × IsReducedWord (IsClosed m s) reduced × Contradicts m len x reduced
