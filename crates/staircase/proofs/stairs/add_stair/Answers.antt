use Rattle.std.proofs.Common.{◌+◌, ◌-◌, ap, ◌∙◌, arith}
use Rattle.sparse_rows.specs.Matrix.{with_entry}
use Rattle.staircase.proofs.RightSide.{first_stair, next_stair}
use Rattle.staircase.proofs.stairs.add_stair.Goals as goal

pub returns-in_ok-insert : goal.returns-in_ok-insert
returns-in_ok-insert c =
    c.in_ok-insert.ensures.ok ∙ ap (with_entry c.args.rows.now c.args.r) c.requires.size
    ∙ first_stair c.args.rows.now c.args.r c.if-r-eq0.true
    (rw c.requires.size at c.requires.sources)

pub returns-in_ok-insert-3 : goal.returns-in_ok-insert-3
returns-in_ok-insert-3 c =
    c.in_ok-insert-3.ensures.ok ∙ ap (λ m. with_entry m c.args.r (c.args.k + c.args.r))
    c.in_ok-insert-2.ensures.ok
    ∙ ap (λ k. with_entry (with_entry c.args.rows.now c.args.r (k + c.args.r - 1)) c.args.r
    (k + c.args.r)) c.requires.size
    ∙ next_stair c.args.rows.now c.args.r (omega arith) c.requires.inside
    (rw c.requires.size at c.requires.sources)
