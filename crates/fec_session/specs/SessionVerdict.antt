-- What a session decides of its block.
use Rattle.std.specs.Prelude.{◌≡◌, List, length}
use Rattle.sparse_rows.specs.Codeword.{Arrival}
use Rattle.peeling.specs.Stands.{StandsFor}
use Rattle.fec_session.specs.Determines.{Determines}
use Rattle.fec_session.specs.Session.{Watched}
use Rattle.fec_session.specs.declared.outcome.Outcome.{Outcome}
use Rattle.fec_session.specs.declared.outcome.Outcome.TheVariants as outcome
use Rattle.fec_session.specs.declared.session.SessionVerdict.{SessionVerdict}
use Rattle.fec_session.specs.declared.session.SessionVerdict.TheVariants as verdict

-- the outcome that a verdict tells
abbrev pub outcome_of : {W : Type 0} → SessionVerdict W → Outcome
outcome_of (verdict.NoCodeword session) = outcome.NoCodeword
outcome_of (verdict.Block block watch) = outcome.Block block
outcome_of (verdict.Undetermined session word) = outcome.Undetermined word

-- the verdict of the arrivals, whatever they are, that the session's decoder stands for
abbrev pub Decides : {W : Type 0} → Watched W → SessionVerdict W → Type 0
Decides s v = (arrivals : List Arrival) → StandsFor s.core arrivals
    → Determines s.core.matrix s.core.len arrivals (outcome_of v)

-- what a verdict hands back: the session as it was, or a block of k source symbols and the watch
abbrev pub HandsBack : {W : Type 0} → Watched W → SessionVerdict W → Type 0
HandsBack s (verdict.NoCodeword session) = session ≡ s
HandsBack s (verdict.Block block watch) =
    (length block.source ≡ s.core.matrix.k) × (watch ≡ s.watch)
HandsBack s (verdict.Undetermined session word) = session ≡ s
