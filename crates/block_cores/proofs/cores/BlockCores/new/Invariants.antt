use Rattle.fec_session.specs.Session.{AreNew}
use Rattle.block_cores.proofs.cores.BlockCores.new.Given as goal

abbrev pub invariant-loop-code : goal.invariant-loop-code
invariant-loop-code l = AreNew l.yielded l.len l.cores.items
