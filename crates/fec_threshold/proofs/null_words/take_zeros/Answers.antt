use Rattle.std.proofs.Common.{◌∙◌, subst, sym}
use Rattle.peeling.specs.Stands.{StandsFor}
use Rattle.fec_threshold.proofs.Zeros.{zeros_more, zeros_whole}
use Rattle.fec_threshold.proofs.null_words.take_zeros.Goals as goal

pub loop-i-preserved : goal.loop-i-preserved
loop-i-preserved c = record {
  code = c.arrive.ensures.received.code ∙ c.loop-i.invariant.code;
  len = c.arrive.ensures.received.len ∙ c.loop-i.invariant.len;
  stands = subst (StandsFor c.arrive.new.self)
      (sym (zeros_more c.args.positions.now c.loop-i.i c.loop-i-test.true))
      (c.arrive.ensures.received.stands _ c.loop-i.invariant.stands);
}

pub returns-clause-stands : goal.returns-clause-stands
returns-clause-stands c = subst (StandsFor c.loop-i.core)
    (zeros_whole c.args.positions.now c.loop-i.i c.loop-i-test.false) c.loop-i.invariant.stands
