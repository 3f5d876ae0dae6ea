use Rattle.std.proofs.Common.{arith}
use Rattle.staircase.specs.LeftSide.{turn}
use Rattle.staircase.specs.Choices.{filling}
use Rattle.staircase.proofs.FirstDraw.{HasDrawn-trans}
use Rattle.staircase.proofs.InOrder.{in_order-none}
use Rattle.staircase.proofs.Columns.{IsTurned-none, IsTurned-more}
use Rattle.staircase.proofs.left_side.fill_column.Goals as goal

pub loop-init : goal.loop-init
loop-init c = IsTurned-none c.args.rows.now.k c.args.rows.now.n c.args.c c.args.rows.now
    c.args.choices.now c.args.g.now c.requires.filled c.requires.rows

pub returns-in_err-row-clause-draw_limit : goal.returns-in_err-row-clause-draw_limit
returns-in_err-row-clause-draw_limit c _ =
    in_order-none (λ _. turn c.args.c) (filling c.args.rows.now c.args.choices.now c.args.g.now)
    c.loop.counter c.args.turns (filling c.loop.rows c.loop.choices c.loop.g) c.loop-test.true
    c.loop.invariant.turned c.in_err-row.ensures.over

pub returns-in_err-row-clause-drawn : goal.returns-in_err-row-clause-drawn
returns-in_err-row-clause-drawn c = HasDrawn-trans _ _ _ c.loop.invariant.drawn
    c.choose_row.ensures.drawn

pub returns-in_err-insert-clause-drawn : goal.returns-in_err-insert-clause-drawn
returns-in_err-insert-clause-drawn c = HasDrawn-trans _ _ _ c.loop.invariant.drawn
    c.choose_row.ensures.drawn

pub loop-preserved : goal.loop-preserved
loop-preserved c =
    IsTurned-more c.args.rows.now.k c.args.rows.now.n c.args.c
    (filling c.args.rows.now c.args.choices.now c.args.g.now) c.loop.counter c.loop.rows
    c.loop.choices c.loop.blocked c.loop.g c.loop.invariant
    c.in_ok-row.row c.insert.new.self c.choose_row.new.choices c.count-blocked.result
    c.choose_row.new.g
    c.in_ok-row.ensures.turn (omega (
      arith,
      c.in_ok-row.ensures.below,
      c.loop.invariant.filled.source,
      c.loop.invariant.filled.encoding,
    )) c.in_ok-row.ensures.free
    c.in_ok-row.ensures.blocked c.choose_row.ensures.rows c.choose_row.ensures.drawn
    c.in_ok-insert.ensures.ok c.count-blocked.ensures.value
