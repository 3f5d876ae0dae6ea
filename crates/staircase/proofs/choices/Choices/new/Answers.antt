use Rattle.std.proofs.Common.{rules, arith}
use Rattle.staircase.proofs.Counted.{circle_begins, circle_goes_on, circle_counted, row_inside}
use Rattle.staircase.proofs.Counted.{count_bound}
use Rattle.staircase.proofs.choices.Choices.new.Goals as goal

pub loop-h-init : goal.loop-h-init
loop-h-init c = circle_begins c.args.rows c.in_ok-items.items.items c.in_ok-counts.counts.items
    c.in_ok-items.ensures.items (search rules)

pub index_mut-requires : goal.index_mut-requires
index_mut-requires c = omega (
  arith,
  row_inside c.args.rows c.loop-h.h c.loop-h.items.items
      c.loop-h.counts.items c.loop-h.invariant c.requires.some,
)

pub overflow_add-index_mut : goal.overflow_add-index_mut
overflow_add-index_mut c = omega (
  arith,
  count_bound c.args.rows c.loop-h.h c.loop-h.items.items c.loop-h.counts.items
      c.loop-h.invariant c.requires.some c.index_mut.result.now c.index_mut.ensures.value,
)

pub loop-h-preserved : goal.loop-h-preserved
loop-h-preserved c = rw c.in_ok-push.ensures.items (circle_goes_on c.args.rows c.loop-h.h
    c.loop-h.items.items c.loop-h.counts.items c.loop-h.invariant c.requires.some
    c.index_mut.result.now c.index_mut.ensures.value)

pub invariant_of-result : goal.invariant_of-result
invariant_of-result c = circle_counted c.args.rows c.loop-h.h c.loop-h.items.items
    c.loop-h.counts.items c.loop-h.invariant c.requires.some (omega arith) c.requires.few
