use Rattle.std.proofs.Common.{List, ℕ, sym, subst}
use Rattle.sparse_rows.specs.Building.{IsRising}
use Rattle.sparse_rows.proofs.Built.{value_rises}
use Rattle.sparse_rows.proofs.builder.RowsBuilder.row.Goals as goal

pub returns-clause-rising : goal.returns-clause-rising
returns-clause-rising c =
    let i = c.self.inside in
    subst (λ (row : List ℕ). IsRising c.args.self.now.n row) (sym c.as_slice.ensures)
    (value_rises i.k i.n i.rows.items c.self.invariant c.args.self.now c.self.view_is c.args.r
    c.requires c.index.result.now c.index.ensures)
