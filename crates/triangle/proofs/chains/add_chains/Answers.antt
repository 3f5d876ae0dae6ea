use Rattle.std.proofs.Common.{arith}
use Rattle.std.proofs.lemmas.Result.{err_from_is_err_and}
use Rattle.staircase.specs.LeftSide.{drawn_matrix}
use Rattle.staircase.proofs.InOrder.{in_order-none}
use Rattle.triangle.specs.Triangle.{chain}
use Rattle.triangle.proofs.Rows.{AreChained-more}
use Rattle.triangle.proofs.chains.add_chains.Goals as goal

pub returns-in_err-add_chain-clause-draw_limit : goal.returns-in_err-add_chain-clause-draw_limit
returns-in_err-add_chain-clause-draw_limit c limit =
    let p = err_from_is_err_and c.from_residual.result c.from_residual.ensures.1 in
    in_order-none chain (drawn_matrix c.args.rows.now c.args.g.now) c.loop-r.r c.args.count
    (drawn_matrix c.loop-r.rows c.loop-r.g) (omega arith) c.loop-r.invariant.chained
    (c.in_err-add_chain.ensures.draw_limit (cc (p.1, p.2, limit)))

pub loop-r-preserved : goal.loop-r-preserved
loop-r-preserved c =
    AreChained-more (drawn_matrix c.args.rows.now c.args.g.now) c.loop-r.r c.loop-r.rows c.loop-r.g
    c.loop-r.invariant c.add_chain.new.rows c.add_chain.new.g
    c.in_ok-add_chain.ensures.ok c.in_ok-add_chain.ensures.source c.in_ok-add_chain.ensures.encoding
    c.in_ok-add_chain.ensures.code c.add_chain.ensures.within
