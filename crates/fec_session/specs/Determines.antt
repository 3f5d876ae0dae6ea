-- How a block comes out by its arrivals.
use Rattle.std.specs.Prelude.{◌≡◌, ◌↔◌, ℕ, true, List}
use Rattle.sparse_rows.specs.Matrix.{Matrix}
use Rattle.sparse_rows.specs.Codeword.{Arrival, positions}
use Rattle.sparse_rows.specs.NullWord.{IsFirstNullWord}
use Rattle.sparse_rows.specs.Fitting.{IsFitting, IsUndetermined}
use Rattle.sparse_rows.specs.Determined.{HoldsSource, IsSource}
use Rattle.fec_session.specs.declared.outcome.Outcome.{Outcome}
use Rattle.fec_session.specs.declared.outcome.Outcome.TheVariants as outcome

-- the arrivals determine this outcome: no codeword fits them; or some do, and all that fit have
-- this source, by peeling where the closure of what arrived holds it; or codewords of two sources
-- fit, and this is the first null word of what arrived
abbrev pub Determines : Matrix → ℕ → List Arrival → Outcome → Type 0
Determines m len arrivals outcome.NoCodeword =
    (word : List (List ℕ)) → ¬ IsFitting m len arrivals word
Determines m len arrivals (outcome.Block block) =
    IsSource m len arrivals block.source × ((block.by_peeling ≡ true) ↔ HoldsSource m arrivals)
Determines m len arrivals (outcome.Undetermined word) =
    IsUndetermined m len arrivals × IsFirstNullWord m (positions arrivals) word
