-- What holds of positions that settle a source block.
use Rattle.std.specs.Prelude.{◌≡◌, ◌≤◌, ◌↔◌, ℕ, suc, ◌+◌, ◌++◌, not, true, List, length, take}
use Rattle.sparse_rows.specs.Matrix.{Matrix, HasShape, is_in}
use Rattle.sparse_rows.specs.Codeword.{Arrival, positions}
use Rattle.sparse_rows.specs.Closure.{Set, adding, closure, members}
use Rattle.sparse_rows.specs.NullWord.{IsNullWord}
use Rattle.sparse_rows.specs.Fitting.{IsFitting}
use Rattle.sparse_rows.specs.Determined.{IsSource}
use Rattle.null_witness.specs.ReducedWords.{AreLate}
use Rattle.partial_block.specs.Through.{IsDetermined}
use Rattle.repair_request.specs.Settling.{AreInnovative, IsDeficiency, IsInnovative}
use Rattle.repair_request.specs.Settling.{Settles, answers, together}

-- each set has late positions, and one list of them
abbrev pub EachSetHasLate : Type 0
EachSetHasLate = (m : Matrix) (s : Set) → (late : List ℕ) × AreLate (IsNullWord m s) late
    × ((other : List ℕ) → AreLate (IsNullWord m s) other → other ≡ late)

-- they settle the block
abbrev pub LateSettle : Type 0
LateSettle = (m : Matrix) (s : Set) (late : List ℕ) → AreLate (IsNullWord m s) late
    → Settles m s late

-- and no fewer positions do
abbrev pub LateAreFewest : Type 0
LateAreFewest = (m : Matrix) (s : Set) (late : List ℕ) → AreLate (IsNullWord m s) late
    → IsDeficiency m s (length late)

-- the deficiency is zero exactly where there is no null word
abbrev pub NoneIsNeeded : Type 0
NoneIsNeeded = (m : Matrix) (s : Set)
    → IsDeficiency m s 0 ↔ ((word : List ℕ) → ¬ IsNullWord m s word)

-- a further position that some null word holds lowers the deficiency by one
abbrev pub InnovativeLowersByOne : Type 0
InnovativeLowersByOne = (m : Matrix) (s : Set) (position before after : ℕ)
    → IsDeficiency m s before → IsDeficiency m (adding position s) after
    → IsInnovative m s position → before ≡ suc after

-- and any other leaves it as it was
abbrev pub OtherLeavesItSame : Type 0
OtherLeavesItSame = (m : Matrix) (s : Set) (position before after : ℕ)
    → IsDeficiency m s before → IsDeficiency m (adding position s) after
    → (¬ IsInnovative m s position) → before ≡ after

-- as many positions as the deficiency settle the block exactly where each in its turn is
-- innovative
abbrev pub InnovativeSettle : Type 0
InnovativeSettle = (m : Matrix) (s : Set) (request : List ℕ) → IsDeficiency m s (length request)
    → Settles m s request ↔ AreInnovative m s request

-- each list that settles the block has among its positions as many as the deficiency that do
abbrev pub SettlingHoldsFewest : Type 0
SettlingHoldsFewest = (m : Matrix) (s : Set) (request : List ℕ) → Settles m s request
    → (part : List ℕ) × IsDeficiency m s (length part) × Settles m s part
    × ((position : ℕ) → is_in part position ≡ true → is_in request position ≡ true)

-- of a list that settles the block and is as long as the deficiency each part counts: the rest is
-- what is needed then
abbrev pub EachPartCounts : Type 0
EachPartCounts = (m : Matrix) (s : Set) (part rest : List ℕ)
    → IsDeficiency m s (length (part ++ rest)) → Settles m s (part ++ rest)
    → IsDeficiency m (together s part) (length rest) × Settles m (together s part) rest

-- whatever arrives, no position becomes late that wasn't
abbrev pub LateOnlyShrink : Type 0
LateOnlyShrink = (m : Matrix) (s : Set) (more late later : List ℕ) → AreLate (IsNullWord m s) late
    → AreLate (IsNullWord m (together s more)) later → (position : ℕ) → is_in later position ≡ true
    → is_in late position ≡ true

-- the source positions that are missing settle the block
abbrev pub MissingSourceSettles : Type 0
MissingSourceSettles = (m : Matrix) (s : Set) → HasShape m
    → Settles m s (members m.k (λ position. not (s position)))

-- so no more are needed than source positions are missing
abbrev pub NeededAtMost : Type 0
NeededAtMost = (m : Matrix) (s : Set) (count : ℕ) → HasShape m → IsDeficiency m s count
    → count ≤ length (members m.k (λ position. not (s position)))

-- and together with those of the set they are k at the least
abbrev pub NeededAtLeast : Type 0
NeededAtLeast = (m : Matrix) (s : Set) (count : ℕ) → HasShape m → IsDeficiency m s count
    → m.k ≤ length (members m.n s) + count

-- where some codeword fits the arrivals, a position is innovative exactly where they don't
-- determine its symbol
abbrev pub InnovativeIsOpen : Type 0
InnovativeIsOpen = (m : Matrix) (len : ℕ) (arrivals : List Arrival) (fitting : List (List ℕ))
    (position : ℕ) → HasShape m → 1 ≤ len → IsFitting m len arrivals fitting
    → IsInnovative m (positions arrivals) position ↔ (¬ IsDetermined m len arrivals position)

-- the same positions settle it after peeling as before
abbrev pub PeelingChangesNothing : Type 0
PeelingChangesNothing = (m : Matrix) (s : Set) (request : List ℕ)
    → Settles m s request ↔ Settles m (closure m s) request

-- where a codeword fits the arrivals, positions settle the block exactly where the arrivals and the
-- codeword's symbols at these positions determine the source
abbrev pub SettlingGivesSource : Type 0
SettlingGivesSource = (m : Matrix) (len : ℕ) (arrivals : List Arrival) (word : List (List ℕ))
    (request : List ℕ) → HasShape m → 1 ≤ len → IsFitting m len arrivals word
    → Settles m (positions arrivals) request
    ↔ IsSource m len (arrivals ++ answers len word request) (take m.k word)

-- and exactly where they determine the codeword
abbrev pub SettlingGivesCodeword : Type 0
SettlingGivesCodeword = (m : Matrix) (len : ℕ) (arrivals : List Arrival) (word : List (List ℕ))
    (request : List ℕ) → HasShape m → 1 ≤ len → IsFitting m len arrivals word
    → Settles m (positions arrivals) request
    ↔ ((other : List (List ℕ)) → IsFitting m len (arrivals ++ answers len word request) other
    → other ≡ word)
