-- What holds of how blocks come out.
use Rattle.std.specs.Prelude.{◌≡◌, ◌⊎◌, ℕ, true, List, Contains}
use Rattle.sparse_rows.specs.Matrix.{Matrix, HasShape}
use Rattle.sparse_rows.specs.Codeword.{Arrival}
use Rattle.peeling.specs.Laws.{HasSameArrivals}
use Rattle.fec_session.specs.Block.{Block}
use Rattle.fec_session.specs.Determines.{Determines}
use Rattle.fec_session.specs.declared.outcome.Outcome.{Outcome}
use Rattle.fec_session.specs.declared.outcome.Outcome.TheVariants as outcome

-- arrivals determine one outcome at most
abbrev pub OutcomeIsOne : Type 0
OutcomeIsOne =
    (m : Matrix) (len : ℕ) (arrivals : List Arrival) (o other : Outcome) → HasShape m
    → Determines m len arrivals o → Determines m len arrivals other → o ≡ other

-- which one depends on what arrived alone, and neither on the order nor on how often it came
abbrev pub ArrivalsDecideOutcome : Type 0
ArrivalsDecideOutcome =
    (m : Matrix) (len : ℕ) (arrivals others : List Arrival) (o : Outcome)
    → HasSameArrivals arrivals others → Determines m len arrivals o → Determines m len others o

-- each of the arrivals is among the others too
abbrev pub AreAmongArrivals : List Arrival → List Arrival → Type 0
AreAmongArrivals arrivals others = (a : Arrival) → Contains arrivals a → Contains others a

-- where no codeword fits, none fits with further arrivals
abbrev pub ContradictionStays : Type 0
ContradictionStays = (m : Matrix) (len : ℕ) (arrivals others : List Arrival) (later : Outcome)
    → AreAmongArrivals arrivals others → Determines m len arrivals outcome.NoCodeword
    → Determines m len others later → later ≡ outcome.NoCodeword

-- a block that has its source keeps it with further arrivals, and by peeling where it had it so,
-- unless no codeword fits them any more
abbrev pub SourceStays : Type 0
SourceStays = (m : Matrix) (len : ℕ) (arrivals others : List Arrival) (block : Block)
    (later : Outcome) → AreAmongArrivals arrivals others
    → Determines m len arrivals (outcome.Block block) → Determines m len others later
    → (later ≡ outcome.NoCodeword)
    ⊎ ((kept : Block) × (later ≡ outcome.Block kept) × (kept.source ≡ block.source)
    × (block.by_peeling ≡ true → kept.by_peeling ≡ true))
