use Rattle.one_block.proofs.Listed.{draws_more}
use Rattle.one_block.proofs.numbers.first_draws.Goals as goal

pub loop-preserved : goal.loop-preserved
loop-preserved c =
    let more = draws_more c.args.seed c.args.below c.loop.counter c.loop.generator
    c.draw.new.self c.draw.result c.loop.draws.items c.push.new.self.items
    c.loop.invariant.state c.draw.ensures.state c.draw.ensures.value c.loop.invariant.draws
    c.in_ok-push.ensures.items in
    record { state = more.0; draws = more.1 }
