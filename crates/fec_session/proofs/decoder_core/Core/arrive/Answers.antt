use Rattle.fec_session.proofs.decoder_core.Core.arrive.Goals as goal

pub returns-clause-bound : goal.returns-clause-bound
returns-clause-bound g c = rw (← c.self.view_is) c.arrive.ensures.bound
