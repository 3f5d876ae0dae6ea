use Rattle.staircase.specs.Choices.{filling}
use Rattle.staircase.proofs.Columns.{AreFilled}
use Rattle.staircase.proofs.left_side.fill_columns.Given as goal

abbrev pub invariant-loop-c : goal.invariant-loop-c
invariant-loop-c l = AreFilled l.initial.rows.k l.initial.rows.n l.turns
    (filling l.initial.rows l.initial.choices l.initial.g) l.c l.rows l.choices l.g
