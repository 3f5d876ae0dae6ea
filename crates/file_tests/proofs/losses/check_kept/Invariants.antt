use Rattle.std.proofs.Common.{◌≡◌}
use Rattle.file_tests.proofs.losses.check_kept.Given as goal

abbrev pub invariant-loop-letter : goal.invariant-loop-letter
invariant-loop-letter g l = l.loss.decided ≡ l.letter-index
