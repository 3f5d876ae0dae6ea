use Rattle.std.proofs.Common.{◌<◌, List, ℕ, length, map, ap, ◌∙◌, arith}
use Rattle.std.proofs.lemmas.List.{take_all}
use Rattle.peeling.specs.Unknowns.{unknowns_of}
use Rattle.peeling.proofs.Counted.{rows_more}
use Rattle.peeling.proofs.unknowns.all_unknown.Goals as goal

pub loop-r-preserved : goal.loop-r-preserved
loop-r-preserved c =
    let inside : c.loop-r.r < length c.args.code.now.rows =
    omega (
      arith,
      c.loop-r-test.true,
      c.n.ensures.value,
      c.k.ensures.value,
      c.n.ensures.code.shape.count,
    ) in
    c.in_ok-push.ensures.items ∙ rows_more c.args.code.now.rows c.loop-r.r c.row_unknowns.result
    c.loop-r.rows.items inside c.row_unknowns.ensures c.loop-r.invariant

pub returns : goal.returns
returns c = c.loop-r.invariant
    ∙ ap (λ (rows : List (List ℕ)). map unknowns_of rows) (take_all c.loop-r.r c.args.code.now.rows
    (omega (
      arith,
      c.loop-r-test.false,
      c.n.ensures.value,
      c.k.ensures.value,
      c.n.ensures.code.shape.count,
    )))
