use Rattle.staircase.specs.Choices.{filling}
use Rattle.staircase.proofs.Columns.{IsTurned}
use Rattle.staircase.proofs.left_side.fill_column.Given as goal

abbrev pub invariant-loop : goal.invariant-loop
invariant-loop l = IsTurned l.initial.rows.k l.initial.rows.n l.c
    (filling l.initial.rows l.initial.choices l.initial.g) l.counter l.rows l.choices l.blocked l.g
