use Rattle.std.proofs.Common.{Some, None, sym, ap, ◌∙◌}
use Rattle.std.proofs.lemmas.Result.{err_from_is_err_and}
use Rattle.staircase.specs.LeftSide.{drawn_matrix}
use Rattle.staircase.proofs.FirstDraw.{HasDrawn-trans}
use Rattle.staircase.proofs.Whole.{left_side_none, left_side_over, left_side_is}
use Rattle.staircase.proofs.left_side.left.Goals as goal

pub returns-then-count-eq0-clause-ok : goal.returns-then-count-eq0-clause-ok
returns-then-count-eq0-clause-ok c =
    left_side_none c.args.k c.args.n c.args.n1 c.args.g.now c.if-count-eq0.true
    ∙ ap (λ m. Some (drawn_matrix m c.args.g.now)) (sym c.in_ok-rows.ensures)

pub returns-in_err-fill_columns-clause-draw_limit :
    goal.returns-in_err-fill_columns-clause-draw_limit
returns-in_err-fill_columns-clause-draw_limit c limit =
    let p = err_from_is_err_and c.from_residual-in_err-fill_columns.result
    c.from_residual-in_err-fill_columns.ensures.1 in
    left_side_over c.args.k c.args.n c.args.n1 c.args.g.now c.in_ok-rows.rows
    c.in_ok-choices.choices c.min.result c.in_ok-rows.ensures c.in_ok-choices.ensures
    c.min.ensures
    (c.in_err-fill_columns.ensures.draw_limit (cc (p.1, p.2, limit)))

pub returns-in_err-add_extras-clause-draw_limit : goal.returns-in_err-add_extras-clause-draw_limit
returns-in_err-add_extras-clause-draw_limit c limit =
    let p = err_from_is_err_and c.from_residual-in_err-add_extras.result
    c.from_residual-in_err-add_extras.ensures.1 in
    left_side_is c.args.k c.args.n c.args.n1 c.args.g.now c.in_ok-rows.rows c.in_ok-choices.choices
    c.min.result c.in_ok-rows.ensures c.in_ok-choices.ensures c.min.ensures
    c.fill_columns.new.rows c.fill_columns.new.choices c.fill_columns.new.g None
    c.in_ok-fill_columns.ensures.ok (c.in_err-add_extras.ensures.draw_limit
    (cc (p.1, p.2, limit)))

pub returns-in_err-add_extras-clause-drawn : goal.returns-in_err-add_extras-clause-drawn
returns-in_err-add_extras-clause-drawn c = HasDrawn-trans _ _ _ c.fill_columns.ensures.drawn
    c.add_extras.ensures.drawn

pub returns-clause-ok : goal.returns-clause-ok
returns-clause-ok c =
    left_side_is c.args.k c.args.n c.args.n1 c.args.g.now c.in_ok-rows.rows c.in_ok-choices.choices
    c.min.result c.in_ok-rows.ensures c.in_ok-choices.ensures c.min.ensures
    c.fill_columns.new.rows c.fill_columns.new.choices c.fill_columns.new.g _
    c.in_ok-fill_columns.ensures.ok c.in_ok-add_extras.ensures.ok

pub returns-clause-drawn : goal.returns-clause-drawn
returns-clause-drawn c = HasDrawn-trans _ _ _ c.fill_columns.ensures.drawn
    c.add_extras.ensures.drawn
