use Rattle.std.proofs.Common.{arith}
use Rattle.peeling.proofs.Listed.{sorted_list, listed_alone}
use Rattle.peeling.proofs.worklist.sort_fresh.Goals as goal

pub returns-clause-sorted : goal.returns-clause-sorted
returns-clause-sorted c = λ n before known h past.
    sorted_list n before known c.args.fresh.now.items c.remove.new.self.items
    c.sort_unstable.new.self.items c.requires h past c.remove.ensures.by_index.2
    c.sort_unstable.ensures.permutation c.sort_unstable.ensures.sorted

pub returns-then-len-eq1-clause-sorted : goal.returns-then-len-eq1-clause-sorted
returns-then-len-eq1-clause-sorted c = λ n before known h past. listed_alone n before known
    c.args.fresh.now.items c.clear.new.self.items
    (omega (arith, c.args.fresh.now.ok.0, c.if-len-eq1.true, c.len.ensures)) h past
    c.clear.ensures.items
