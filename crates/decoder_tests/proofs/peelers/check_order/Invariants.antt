use Rattle.std.proofs.Common.{◌≡◌}
use Rattle.decoder_tests.proofs.peelers.check_order.Given as goal

abbrev pub invariant-loop-i : goal.invariant-loop-i
invariant-loop-i g l = record {
  n : l.d.matrix.n ≡ 7;
  len : l.d.len ≡ 1;
}
