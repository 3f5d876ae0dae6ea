use Rattle.std.proofs.Common.{◌≡◌, length}
use Rattle.decoder_tests.proofs.large_blocks.positions.Given as goal

abbrev pub invariant-loop-e : goal.invariant-loop-e
invariant-loop-e l = length l.order.items ≡ l.e
