use Rattle.std.proofs.Common.{refl, sym, ap, ◌∙◌, Some}
use Rattle.staircase.specs.LeftSide.{drawn_matrix}
use Rattle.staircase.proofs.Filled.{filled_with}
use Rattle.staircase.proofs.Gains.{first_stays, first_over, first_gains}
use Rattle.staircase.proofs.extras.add_first.Goals as goal

pub returns-in_err-column-clause-draw_limit : goal.returns-in_err-column-clause-draw_limit
returns-in_err-column-clause-draw_limit c _ =
    first_over c.args.rows.now c.args.g.now c.args.r c.args.k c.source_degree.result
    c.requires.filled.source c.source_degree.ensures c.if-source_degree-eq0.true
    (c.in_err-column.ensures.over.0 refl)

pub returns-in_ok-insert-clause-ok : goal.returns-in_ok-insert-clause-ok
returns-in_ok-insert-clause-ok c =
    first_gains c.args.rows.now c.args.g.now c.args.r c.args.k c.source_degree.result
    c.requires.filled.source c.source_degree.ensures c.if-source_degree-eq0.true
    c.in_ok-column.column c.draw.new.self
    (record {
      scaled = c.in_ok-column.ensures.value;
      state = c.in_ok-column.ensures.state;
      used = c.in_ok-column.ensures.used;
      limit = c.draw.ensures.limit;
      within = c.draw.ensures.within_limit;
    })
    ∙ ap (λ m. Some (drawn_matrix m c.draw.new.self)) (sym c.in_ok-insert.ensures.ok)

pub returns-in_ok-insert-clause-filled : goal.returns-in_ok-insert-clause-filled
returns-in_ok-insert-clause-filled c = rw c.in_ok-insert.ensures.ok
    (filled_with c.args.k c.args.rows.now.n c.args.k c.args.rows.now c.requires.filled c.args.r
    c.in_ok-column.column c.requires.row c.in_ok-column.ensures.below)

pub returns-else-source_degree-eq0-clause-ok : goal.returns-else-source_degree-eq0-clause-ok
returns-else-source_degree-eq0-clause-ok c = first_stays c.args.rows.now c.args.g.now c.args.r
    c.args.k c.source_degree.result c.requires.filled.source c.source_degree.ensures
    c.if-source_degree-eq0.false
