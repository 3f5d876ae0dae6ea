use Rattle.std.proofs.Common.{◌≡◌}
use Rattle.decoder_tests.proofs.large_blocks.take_all.Given as goal

abbrev pub invariant-loop-e : goal.invariant-loop-e
invariant-loop-e l = l.core.len ≡ 16
