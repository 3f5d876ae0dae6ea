use Rattle.std.proofs.Common.{◌+◌, refl, ap, ◌∙◌, arith}
use Rattle.sparse_rows.specs.Matrix.{with_entry}
use Rattle.staircase.specs.LeftSide.{drawn_matrix}
use Rattle.triangle.proofs.Chained.{IsChained-more, chain_is, chain_over}
use Rattle.triangle.proofs.chains.add_chain.Goals as goal

pub returns-in_err-reached-clause-draw_limit : goal.returns-in_err-reached-clause-draw_limit
returns-in_err-reached-clause-draw_limit c _ =
    chain_over c.args.r (drawn_matrix c.args.rows.now c.args.g.now) c.loop-links.links
    c.loop-links.reached c.loop-links.rows c.loop-links.g c.loop-links.invariant (omega arith)
    (c.in_err-reached.ensures.over.0 refl)

pub loop-links-preserved : goal.loop-links-preserved
loop-links-preserved c =
    IsChained-more c.args.r (drawn_matrix c.args.rows.now c.args.g.now) c.loop-links.links
    c.loop-links.reached c.loop-links.rows c.loop-links.g c.loop-links.invariant
    (omega arith) (omega (
      arith,
      c.loop-links.invariant.source,
      c.loop-links.invariant.encoding,
      c.requires.row,
    )) c.in_ok-reached.reached c.draw.new.self
    (record {
      scaled = c.in_ok-reached.ensures.value;
      state = c.in_ok-reached.ensures.state;
      used = c.in_ok-reached.ensures.used;
      limit = c.draw.ensures.limit;
      within = c.draw.ensures.within_limit;
    })
    c.in_ok-reached.ensures.below c.insert.new.self (c.in_ok-insert.ensures.ok
    ∙ ap (λ k. with_entry c.loop-links.rows c.args.r (k + c.in_ok-reached.reached))
    c.requires.k)

pub returns-clause-ok : goal.returns-clause-ok
returns-clause-ok c =
    chain_is c.args.r (drawn_matrix c.args.rows.now c.args.g.now) c.loop-links.links
    c.loop-links.reached c.loop-links.rows c.loop-links.g c.loop-links.invariant (omega arith)
