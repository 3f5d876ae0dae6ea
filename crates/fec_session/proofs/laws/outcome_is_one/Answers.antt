use Rattle.fec_session.proofs.Outcomes.{one_outcome}
use Rattle.fec_session.proofs.laws.outcome_is_one.Goals as goal

pub returns : goal.returns
returns c = one_outcome c.null_words_follow_the_closure.ensures.first
