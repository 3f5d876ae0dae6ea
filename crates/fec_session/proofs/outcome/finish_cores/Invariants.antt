use Rattle.fec_session.specs.Session.{ComeOut}
use Rattle.fec_session.proofs.outcome.finish_cores.Given as goal

abbrev pub invariant-loop-core : goal.invariant-loop-core
invariant-loop-core l = ComeOut l.yielded l.outcomes.items
