use Rattle.blocking.proofs.Spread.{plan_fits}
use Rattle.blocking.proofs.plan.Plan.of.Goals as goal

-- src/plan.rt:60:9
pub invariant_of-result-2 : goal.invariant_of-result-2
invariant_of-result-2 c = plan_fits c.args.length c.args.e c.div_ceil-total.result
    c.div_ceil-count.result c.div_ceil.result c.requires.symbol c.requires.most
    c.div_ceil-total.ensures c.if-count-eq0.false c.if-count-gt-MOST_BLOCKS.false c.div_ceil.ensures
