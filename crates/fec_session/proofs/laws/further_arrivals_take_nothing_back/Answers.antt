use Rattle.fec_session.proofs.Outcomes.{contradiction_stays, source_stays}
use Rattle.fec_session.proofs.laws.further_arrivals_take_nothing_back.Goals as goal

pub returns-clause-contradiction : goal.returns-clause-contradiction
returns-clause-contradiction c = contradiction_stays

pub returns-clause-source : goal.returns-clause-source
returns-clause-source c = source_stays c.closure_is_least.ensures.grows
