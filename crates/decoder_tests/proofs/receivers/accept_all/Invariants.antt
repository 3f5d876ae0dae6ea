use Rattle.decoder_tests.specs.Small.{AreSmall}
use Rattle.decoder_tests.proofs.receivers.accept_all.Given as goal

abbrev pub invariant-loop-block : goal.invariant-loop-block
invariant-loop-block g l = AreSmall l.receiver.cores
