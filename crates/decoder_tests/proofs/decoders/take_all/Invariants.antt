use Rattle.decoder_tests.specs.Small.{IsThreeOfSeven}
use Rattle.decoder_tests.proofs.decoders.take_all.Given as goal

abbrev pub invariant-loop-position : goal.invariant-loop-position
invariant-loop-position l = IsThreeOfSeven l.core
