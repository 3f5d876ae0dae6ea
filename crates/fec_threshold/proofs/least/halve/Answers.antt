use Rattle.std.proofs.Common.{◌∙◌, sym, arith, le_refl, true≢false}
use Rattle.fec_threshold.proofs.Prefixes.{between_all, between_end, between_up}
use Rattle.fec_threshold.proofs.least.halve.Goals as goal

pub loop-low-init : goal.loop-low-init
loop-low-init c = record {
  order = omega arith;
  within = le_refl _;
  between = between_all c.args.code.now c.args.order.now c.requires.whole;
}

pub loop-low-preserved-then-branch : goal.loop-low-preserved-then-branch
loop-low-preserved-then-branch c = record {
  order = omega (arith, c.loop-low-test.true);
  within = c.loop-low.invariant.within;
  between = between_up c.args.code.now c.args.order.now c.loop-low.low _ c.loop-low.high
      (c.in_ok-has_null_word.ensures.0 c.if-branch.true) c.loop-low.invariant.between;
}

pub loop-low-preserved : goal.loop-low-preserved
loop-low-preserved c = record {
  order = omega arith;
  within = omega (arith, c.loop-low.invariant.within, c.loop-low-test.true);
  between = (
    c.loop-low.invariant.between.0,
    λ some. true≢false (sym (c.in_ok-has_null_word.ensures.1 some) ∙ c.if-branch.false),
  );
}

pub returns : goal.returns
returns c = between_end c.args.code.now c.args.order.now c.loop-low.low c.loop-low.high
    (omega (arith, c.loop-low-test.false)) c.loop-low.invariant.within
    c.loop-low.invariant.between
