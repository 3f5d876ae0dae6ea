-- What holds of the closure, and of decoders.
use Rattle.std.specs.Prelude.{◌≡◌, ◌<◌, ◌↔◌, ℕ, true, false, List, Contains}
use Rattle.sparse_rows.specs.Matrix.{Matrix, HasShape}
use Rattle.sparse_rows.specs.Codeword.{IsAssignment, IsCodeword, Arrival, Fits, symbol_at}
use Rattle.sparse_rows.specs.Codeword.{SumsToZeroWithin}
use Rattle.sparse_rows.specs.Closure.{Set, flagged, IsWithin, HasSameMembers, round, closure}
use Rattle.peeling.specs.Agree.{Agree}
use Rattle.peeling.specs.Decoder.{Decoder, kept}
use Rattle.sparse_rows.specs.Determined.{IsConsistent}
use Rattle.peeling.specs.Stands.{StandsFor}

-- a round adds nothing to the closure
abbrev pub ClosureRests : Type 0
ClosureRests = (m : Matrix) (s : Set) → HasShape m
    → HasSameMembers (round m (closure m s)) (closure m s)

-- the closure holds the set
abbrev pub ClosureHolds : Type 0
ClosureHolds = (m : Matrix) (s : Set) → IsWithin s (closure m s)

-- the closure lies in each set that holds the first and to which a round adds nothing
abbrev pub ClosureIsLeast : Type 0
ClosureIsLeast = (m : Matrix) (s t : Set) → IsWithin s t → HasSameMembers (round m t) t
    → IsWithin (closure m s) t

-- a larger set has a larger closure
abbrev pub ClosureGrows : Type 0
ClosureGrows = (m : Matrix) (s t : Set) → IsWithin s t → IsWithin (closure m s) (closure m t)

-- the closure of no columns has none
abbrev pub ClosureOfNone : Type 0
ClosureOfNone = (m : Matrix) → HasShape m
    → HasSameMembers (closure m (λ column. false)) (λ column. false)

-- a closure that holds all source columns holds all columns
abbrev pub ClosureWithSource : Type 0
ClosureWithSource = (m : Matrix) (s : Set) → HasShape m
    → ((column : ℕ) → column < m.k → closure m s column ≡ true)
    → (column : ℕ) → column < m.n → closure m s column ≡ true

-- two assignments that agree on a set, and make each row within its closure sum to zero, agree on
-- the closure
abbrev pub ClosureIsDetermined : Type 0
ClosureIsDetermined = (m : Matrix) (len : ℕ) (s : Set) (x y : ℕ → List ℕ) → IsAssignment len x
    → IsAssignment len y
    → SumsToZeroWithin m len (closure m s) x → SumsToZeroWithin m len (closure m s) y → Agree s x y
    → Agree (closure m s) x y

-- where some codeword fits the arrivals, the kept symbols are those of each that fits
abbrev pub KeptAreOfEachCodeword : Type 0
KeptAreOfEachCodeword = (d : Decoder) (arrivals : List Arrival) (word : List (List ℕ))
    → StandsFor d arrivals
    → IsCodeword d.matrix d.len word → Fits arrivals (symbol_at d.len word)
    → Agree (flagged d.known) (kept d) (symbol_at d.len word)

-- where some assignment is consistent with the arrivals, the kept symbols are those of each that is
abbrev pub KeptAreConsistent : Type 0
KeptAreConsistent = (d : Decoder) (arrivals : List Arrival) (x : ℕ → List ℕ) → StandsFor d arrivals
    → IsConsistent d.matrix d.len arrivals x → Agree (flagged d.known) (kept d) x

-- the same arrivals, whatever their order and however often each came
abbrev pub HasSameArrivals : List Arrival → List Arrival → Type 0
HasSameArrivals arrivals others = (a : Arrival) → Contains arrivals a ↔ Contains others a

-- decoders that stand for the same arrivals know the same positions
abbrev pub ArrivalsDecideKnown : Type 0
ArrivalsDecideKnown = (d other : Decoder) (arrivals others : List Arrival) → StandsFor d arrivals
    → StandsFor other others → HasSameArrivals arrivals others
    → other.matrix ≡ d.matrix → HasSameMembers (flagged other.known) (flagged d.known)

-- and, where some codeword fits, the same symbols
abbrev pub ArrivalsDecideSymbols : Type 0
ArrivalsDecideSymbols = (d other : Decoder) (arrivals others : List Arrival) (word : List (List ℕ))
    → StandsFor d arrivals → StandsFor other others → HasSameArrivals arrivals others
    → other.matrix ≡ d.matrix → other.len ≡ d.len → IsCodeword d.matrix d.len word
    → Fits arrivals (symbol_at d.len word) → Agree (flagged d.known) (kept d) (kept other)
