use Rattle.std.proofs.Common.{ℕ, ◌<◌, get_or}
use Rattle.decoder_tests.proofs.prefixes.are_positions.Given as goal

abbrev pub invariant-loop-position : goal.invariant-loop-position
invariant-loop-position l = (i : ℕ) → i < l.position-index → get_or l.order i 0 < 7
