use Rattle.std.proofs.Common.{arith, ⊎_elim}
use Rattle.std.proofs.lemmas.Bool.{cases_lt}
use Rattle.xor_lanes.proofs.Lanes.{zero_bytes, bytes_zero}
use Rattle.xor_lanes.proofs.is_zero.Goals as goal

pub returns-then-not-is_lane_zero : goal.returns-then-not-is_lane_zero
returns-then-not-is_lane_zero c = (
  λ t. absurd (cc t),
  λ e. absurd
      (cc (
        c.if-not-is_lane_zero.true,
        c.is_lane_zero.ensures.1 (λ k le lt. bytes_zero c.args.s.now e k),
      )),
)

pub loop-at-preserved : goal.loop-at-preserved
loop-at-preserved c = record {
  room = omega (arith, c.loop-at-test.true);
  zero = λ k lt. ⊎_elim (λ low. c.loop-at.invariant.zero k low)
      (λ high. c.is_lane_zero.ensures.0 c.if-not-is_lane_zero.false k high lt)
      (cases_lt k c.loop-at.at);
}

pub returns : goal.returns
returns c = (
  λ t. zero_bytes c.args.s.now (λ k lt. ⊎_elim (λ low. c.loop-at.invariant.zero k low)
      (λ high. c.is_rest_zero.ensures.0 t k high lt) (cases_lt k c.loop-at.at)),
  λ e. c.is_rest_zero.ensures.1 (λ k le lt. bytes_zero c.args.s.now e k),
)
