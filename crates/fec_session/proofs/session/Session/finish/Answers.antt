use Rattle.std.proofs.Common.{List, subst}
use Rattle.sparse_rows.specs.Codeword.{Arrival}
use Rattle.peeling.specs.Stands.{StandsFor}
use Rattle.fec_session.specs.Determines.{Determines}
use Rattle.fec_session.specs.Session.{Watched}
use Rattle.fec_session.specs.Verdict.{Decides}
use Rattle.fec_session.specs.declared.outcome.Outcome.TheVariants as outcome
use Rattle.fec_session.proofs.session.Session.finish.Goals as goal

pub returns-in-Ok-Block-clause-verdict : goal.returns-in-Ok-Block-clause-verdict
returns-in-Ok-Block-clause-verdict g c = subst
    (λ (s : Watched _). (arrivals : List Arrival) → StandsFor s.core arrivals
    → Determines s.core.matrix s.core.len arrivals (outcome.Block c.in-Ok-Block.source))
    c.self.view_is (subst (Decides c.self.inside.core) c.in-Ok-Block.field-0-is
    c.in-Ok-Block.ensures.verdict)

pub returns-in-Ok-Undetermined-clause-verdict : goal.returns-in-Ok-Undetermined-clause-verdict
returns-in-Ok-Undetermined-clause-verdict g c = subst
    (λ (s : Watched _). (arrivals : List Arrival) → StandsFor s.core arrivals
    → Determines s.core.matrix s.core.len arrivals
    (outcome.Undetermined c.in-Ok-Undetermined.word))
    c.self.view_is (subst (Decides c.self.inside.core) c.in-Ok-Undetermined.field-0-is
    c.in-Ok-Undetermined.ensures.verdict)

pub returns-in-Ok-NoCodeword-clause-verdict : goal.returns-in-Ok-NoCodeword-clause-verdict
returns-in-Ok-NoCodeword-clause-verdict g c = subst
    (λ (s : Watched _). (arrivals : List Arrival) → StandsFor s.core arrivals
    → Determines s.core.matrix s.core.len arrivals outcome.NoCodeword)
    c.self.view_is (subst (Decides c.self.inside.core) c.in-Ok-NoCodeword.field-0-is
    c.in-Ok-NoCodeword.ensures.verdict)
