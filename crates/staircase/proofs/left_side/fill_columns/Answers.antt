use Rattle.staircase.specs.LeftSide.{column}
use Rattle.staircase.specs.Choices.{filling}
use Rattle.staircase.proofs.FirstDraw.{HasDrawn-trans}
use Rattle.staircase.proofs.InOrder.{in_order-none}
use Rattle.staircase.proofs.Columns.{AreFilled-more}
use Rattle.std.proofs.lemmas.Result.{err_from_is_err_and}
use Rattle.staircase.proofs.left_side.fill_columns.Goals as goal

pub returns-in_err-fill_column-clause-draw_limit : goal.returns-in_err-fill_column-clause-draw_limit
returns-in_err-fill_column-clause-draw_limit c limit =
    let p = err_from_is_err_and c.from_residual.result c.from_residual.ensures.1 in
    in_order-none (column c.args.turns) (filling c.args.rows.now c.args.choices.now c.args.g.now)
    c.loop-c.c c.args.k (filling c.loop-c.rows c.loop-c.choices c.loop-c.g) c.loop-c-test.true
    c.loop-c.invariant.taken
    (c.in_err-fill_column.ensures.draw_limit (cc (p.1, p.2, limit)))

pub returns-in_err-fill_column-clause-drawn : goal.returns-in_err-fill_column-clause-drawn
returns-in_err-fill_column-clause-drawn c = HasDrawn-trans _ _ _ c.loop-c.invariant.drawn
    c.fill_column.ensures.drawn

pub loop-c-preserved : goal.loop-c-preserved
loop-c-preserved c =
    AreFilled-more c.args.rows.now.k c.args.rows.now.n c.args.turns
    (filling c.args.rows.now c.args.choices.now c.args.g.now) c.loop-c.c c.loop-c.rows
    c.loop-c.choices c.loop-c.g c.loop-c.invariant
    c.fill_column.new.rows c.fill_column.new.choices c.fill_column.new.g
    c.in_ok-fill_column.ensures.ok c.in_ok-fill_column.ensures.filled
    c.in_ok-fill_column.ensures.rows c.fill_column.ensures.drawn
