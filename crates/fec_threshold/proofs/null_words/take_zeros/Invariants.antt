use Rattle.std.proofs.Common.{◌≡◌, take}
use Rattle.peeling.specs.Stands.{StandsFor}
use Rattle.fec_threshold.specs.ZeroArrivals.{zero_arrivals}
use Rattle.fec_threshold.proofs.null_words.take_zeros.Given as goal

abbrev pub invariant-loop-i : goal.invariant-loop-i
invariant-loop-i l = record {
  code : l.core.matrix ≡ l.initial.core.matrix;
  len : l.core.len ≡ 1;
  stands : StandsFor l.core (zero_arrivals (take l.i l.positions));
}
