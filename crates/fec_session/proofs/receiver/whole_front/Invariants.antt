use Rattle.fec_session.specs.Whole.{AreWhole}
use Rattle.fec_session.proofs.receiver.whole_front.Given as goal

abbrev pub invariant-loop-block : goal.invariant-loop-block
invariant-loop-block l = AreWhole l.cores l.block
