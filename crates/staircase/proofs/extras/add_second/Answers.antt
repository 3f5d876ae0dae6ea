use Rattle.std.proofs.Common.{sym, ap, ◌∙◌, Some}
use Rattle.staircase.specs.LeftSide.{drawn_matrix}
use Rattle.staircase.proofs.Filled.{filled_with}
use Rattle.staircase.proofs.Gains.{second_stays, second_stays_alone, second_over, second_gains}
use Rattle.staircase.proofs.extras.add_second.Goals.{}
use Rattle.staircase.proofs.extras.add_second.Goals.{else-source_degree-eq1-via-then-source_degree-eq1+else-k-ge2}
use Rattle.staircase.proofs.extras.add_second.Goals.{}
use Rattle.staircase.proofs.extras.add_second.Goals.{else-source_degree-eq1-via-else-source_degree-eq1}
use Rattle.staircase.proofs.extras.add_second.Goals as goal

pub returns-in_err-column-clause-draw_limit : goal.returns-in_err-column-clause-draw_limit
returns-in_err-column-clause-draw_limit c _ =
    second_over c.args.rows.now c.args.g.now c.args.r c.args.k c.source_degree.result
    c.requires.filled.source c.source_degree.ensures c.if-source_degree-eq1.true c.if-k-ge2.true
    c.in_err-column.ensures.over

pub returns-in_ok-insert-clause-ok : goal.returns-in_ok-insert-clause-ok
returns-in_ok-insert-clause-ok c =
    second_gains c.args.rows.now c.args.g.now c.args.r c.args.k c.source_degree.result
    c.requires.filled.source c.source_degree.ensures c.if-source_degree-eq1.true c.if-k-ge2.true
    c.in_ok-column.column c.pick_column.new.g c.in_ok-column.ensures.picked
    ∙ ap (λ m. Some (drawn_matrix m c.pick_column.new.g)) (sym c.in_ok-insert.ensures.ok)

pub returns-in_ok-insert-clause-filled : goal.returns-in_ok-insert-clause-filled
returns-in_ok-insert-clause-filled c = rw c.in_ok-insert.ensures.ok
    (filled_with c.args.k c.args.rows.now.n c.args.k c.args.rows.now c.requires.filled c.args.r
    c.in_ok-column.column c.requires.row c.in_ok-column.ensures.below)

pub returns-else-source_degree-eq1-clause-ok : goal.returns-else-source_degree-eq1-clause-ok
returns-else-source_degree-eq1-clause-ok c = elim c.else-source_degree-eq1.branch [
  | else-source_degree-eq1-via-then-source_degree-eq1+else-k-ge2 w ↦ second_stays_alone
      c.args.rows.now c.args.g.now c.args.r c.args.k c.source_degree.result c.requires.filled.source
      c.source_degree.ensures w.if-source_degree-eq1.true w.if-k-ge2.false
  | else-source_degree-eq1-via-else-source_degree-eq1 w ↦ second_stays c.args.rows.now c.args.g.now
      c.args.r c.args.k c.source_degree.result c.requires.filled.source c.source_degree.ensures
      w.if-source_degree-eq1.false
]
