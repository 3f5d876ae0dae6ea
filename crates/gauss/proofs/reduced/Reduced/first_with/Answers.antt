use Rattle.std.proofs.Common.{arith}
use Rattle.gauss.proofs.FormParts.{closed_from}
use Rattle.gauss.proofs.reduced.Reduced.first_with.Goals as goal

pub returns : goal.returns
returns c = closed_from c.args.self.now c.args.c
    (λ j lt. c.loop-i.invariant j (omega
    (arith, lt, c.loop-i-test.false, c.sets-i-end.ensures.count)))
