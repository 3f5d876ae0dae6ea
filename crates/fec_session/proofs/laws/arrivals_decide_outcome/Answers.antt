use Rattle.fec_session.proofs.Outcomes.{outcome_others}
use Rattle.fec_session.proofs.laws.arrivals_decide_outcome.Goals as goal

pub returns : goal.returns
returns c = outcome_others
