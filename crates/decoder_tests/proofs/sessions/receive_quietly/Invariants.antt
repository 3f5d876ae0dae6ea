use Rattle.decoder_tests.specs.Small.{IsThreeOfSeven}
use Rattle.decoder_tests.proofs.sessions.receive_quietly.Given as goal

abbrev pub invariant-loop-position : goal.invariant-loop-position
invariant-loop-position g l = IsThreeOfSeven l.session.core
