use Rattle.std.proofs.Common.{◌∙◌, arith}
use Rattle.std.proofs.lemmas.Result.{err_from_is_err_and}
use Rattle.staircase.specs.LeftSide.{extras, drawn_matrix}
use Rattle.staircase.proofs.FirstDraw.{HasDrawn-trans}
use Rattle.staircase.proofs.InOrder.{in_order-none}
use Rattle.staircase.proofs.Extended.{extras_over_first, extras_over_second, AreExtended-more}
use Rattle.staircase.proofs.Extended.{left_side_is}
use Rattle.staircase.proofs.extras.add_extras.Goals as goal

pub returns-in_err-add_first-clause-draw_limit : goal.returns-in_err-add_first-clause-draw_limit
returns-in_err-add_first-clause-draw_limit c limit =
    let p = err_from_is_err_and c.from_residual.result c.from_residual.ensures.1 in
    in_order-none extras (drawn_matrix c.args.rows.now c.args.g.now) c.loop-r.r c.args.count
    (drawn_matrix c.loop-r.rows c.loop-r.g) c.loop-r-test.true c.loop-r.invariant.extended
    (extras_over_first c.loop-r.r c.loop-r.rows c.loop-r.g (c.in_err-add_first.ensures.draw_limit
    (cc (p.1, p.2, limit))))

pub returns-in_err-add_first-clause-drawn : goal.returns-in_err-add_first-clause-drawn
returns-in_err-add_first-clause-drawn c = HasDrawn-trans _ _ _ c.loop-r.invariant.drawn
    c.add_first.ensures.drawn

pub returns-in_err-add_second-clause-draw_limit : goal.returns-in_err-add_second-clause-draw_limit
returns-in_err-add_second-clause-draw_limit c limit =
    let p = err_from_is_err_and c.from_residual-in_err-add_second.result
    c.from_residual-in_err-add_second.ensures.1 in
    in_order-none extras (drawn_matrix c.args.rows.now c.args.g.now) c.loop-r.r c.args.count
    (drawn_matrix c.loop-r.rows c.loop-r.g) c.loop-r-test.true c.loop-r.invariant.extended
    (extras_over_second c.loop-r.r c.loop-r.rows c.loop-r.g c.add_first.new.rows c.add_first.new.g
    c.in_ok-add_first.ensures.ok (c.in_err-add_second.ensures.draw_limit
    (cc (p.1, p.2, limit))))

pub returns-in_err-add_second-clause-drawn : goal.returns-in_err-add_second-clause-drawn
returns-in_err-add_second-clause-drawn c = HasDrawn-trans _ _ _ c.loop-r.invariant.drawn
    (HasDrawn-trans _ _ _ c.add_first.ensures.drawn c.add_second.ensures.drawn)

pub loop-r-preserved : goal.loop-r-preserved
loop-r-preserved c =
    let first = c.in_ok-add_first.ensures in
    let second = c.in_ok-add_second.ensures in
    AreExtended-more c.args.k c.args.rows.now.n (drawn_matrix c.args.rows.now c.args.g.now)
    c.loop-r.r c.loop-r.rows c.loop-r.g c.loop-r.invariant c.add_first.new.rows
    c.add_first.new.g c.add_second.new.rows c.add_second.new.g
    first.ok first.some first.keeps c.add_first.ensures.drawn second.ok
    (rw (first.filled.encoding ∙ c.loop-r.invariant.filled.encoding) at second.filled)
    second.keeps c.add_second.ensures.drawn

pub returns-clause-sources : goal.returns-clause-sources
returns-clause-sources c = left_side_is c.args.k c.args.rows.now.n c.loop-r.r
    (drawn_matrix c.args.rows.now c.args.g.now) c.loop-r.rows c.loop-r.g c.loop-r.invariant
    (omega arith)
