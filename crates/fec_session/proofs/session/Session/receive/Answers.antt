use Rattle.fec_session.proofs.session.Session.receive.Goals as goal

pub returns-in_err-tell_fresh-clause-bound : goal.returns-in_err-tell_fresh-clause-bound
returns-in_err-tell_fresh-clause-bound g c = rw (← c.self.view_is) c.take_in-arrival.ensures.bound

pub returns-clause-bound : goal.returns-clause-bound
returns-clause-bound g c = rw (← c.self.view_is) c.take_in-arrival.ensures.bound
