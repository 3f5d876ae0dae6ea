use Rattle.fec_session.specs.Session.{AreNew}
use Rattle.fec_session.proofs.receiver.new_cores.Given as goal

abbrev pub invariant-loop-code : goal.invariant-loop-code
invariant-loop-code l = AreNew l.yielded l.len l.cores.items
