use Rattle.std.proofs.Common.{◌<◌, length, subst, sym}
use Rattle.fec_session.specs.Session.{Receiving}
use Rattle.fec_session.proofs.Bounded.{bound_at}
use Rattle.fec_session.proofs.receiver.Receiver.accept.Goals as goal

pub returns-in_err-tell_fresh-clause-bound : goal.returns-in_err-tell_fresh-clause-bound
returns-in_err-tell_fresh-clause-bound g c = rw (← c.self.view_is)
    (bound_at c.self.inside.cores.items c.args.sbn c.index_mut.result.now c.take_in-arrival.new.core
    c.args.steps.now c.take_in-arrival.new.steps
    (subst (λ (r : Receiving _). c.args.sbn < length r.cores) (sym c.self.view_is)
    c.requires.block) c.index_mut.ensures.value c.take_in-arrival.ensures.bound)

pub returns-clause-bound : goal.returns-clause-bound
returns-clause-bound g c = rw (← c.self.view_is)
    (bound_at c.self.inside.cores.items c.args.sbn c.index_mut.result.now c.take_in-arrival.new.core
    c.args.steps.now c.take_in-arrival.new.steps
    (subst (λ (r : Receiving _). c.args.sbn < length r.cores) (sym c.self.view_is)
    c.requires.block) c.index_mut.ensures.value c.take_in-arrival.ensures.bound)
