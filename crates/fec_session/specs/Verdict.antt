-- What a core decides of its block.
use Rattle.std.specs.Prelude.{◌≡◌, List, length}
use Rattle.sparse_rows.specs.Codeword.{Arrival}
use Rattle.peeling.specs.Decoder.{Decoder}
use Rattle.peeling.specs.Stands.{StandsFor}
use Rattle.fec_session.specs.Determines.{Determines}
use Rattle.fec_session.specs.declared.outcome.Outcome.{Outcome}
use Rattle.fec_session.specs.declared.outcome.Outcome.TheVariants as outcome
use Rattle.fec_session.specs.declared.verdict.Verdict.{Verdict}
use Rattle.fec_session.specs.declared.verdict.Verdict.TheVariants as verdict

-- the outcome that a verdict tells
abbrev pub outcome_of : Verdict → Outcome
outcome_of (verdict.NoCodeword core) = outcome.NoCodeword
outcome_of (verdict.Block block) = outcome.Block block
outcome_of (verdict.Undetermined core word) = outcome.Undetermined word

-- the verdict of the arrivals, whatever they are, that the decoder stands for
abbrev pub Decides : Decoder → Verdict → Type 0
Decides d v = (arrivals : List Arrival) → StandsFor d arrivals
    → Determines d.matrix d.len arrivals (outcome_of v)

-- what a verdict holds: the core as it was, or a block of k source symbols
abbrev pub Holds : Decoder → Verdict → Type 0
Holds d (verdict.NoCodeword core) = core ≡ d
Holds d (verdict.Block block) = length block.source ≡ d.matrix.k
Holds d (verdict.Undetermined core word) = core ≡ d
