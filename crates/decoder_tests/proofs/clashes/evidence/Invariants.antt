use Rattle.std.proofs.Common.{◌≡◌}
use Rattle.decoder_tests.proofs.clashes.evidence.Given as goal

abbrev pub invariant-loop-i : goal.invariant-loop-i
invariant-loop-i l = record {
  n : l.ev.n ≡ 7;
  len : l.ev.len ≡ 1;
}
