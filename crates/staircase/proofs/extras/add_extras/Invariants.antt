use Rattle.staircase.specs.LeftSide.{drawn_matrix}
use Rattle.staircase.proofs.Extended.{AreExtended}
use Rattle.staircase.proofs.extras.add_extras.Given as goal

abbrev pub invariant-loop-r : goal.invariant-loop-r
invariant-loop-r l = AreExtended l.k l.initial.rows.n (drawn_matrix l.initial.rows l.initial.g) l.r
    l.rows l.g
