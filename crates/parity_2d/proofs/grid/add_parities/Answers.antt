use Rattle.std.proofs.Common.{◌+◌, sym, ap, ◌∙◌, arith}
use Rattle.sparse_rows.specs.Matrix.{with_entry}
use Rattle.parity_2d.proofs.Parities.{parities_more, parities_below}
use Rattle.parity_2d.proofs.grid.add_parities.Goals as goal

pub loop-r-preserved : goal.loop-r-preserved
loop-r-preserved c =
    let m = c.args.rows.now in
    c.in_ok-insert.ensures.ok
    ∙ ap (λ rows. with_entry rows c.loop-r.r (c.args.k + c.loop-r.r)) c.loop-r.invariant
    ∙ ap (λ k. with_entry (record m { rows = parities_below m c.loop-r.r }) c.loop-r.r
    (k + c.loop-r.r)) (sym c.requires.k)
    ∙ parities_more m c.loop-r.r (rw c.requires.k c.requires.sources) (omega arith)
