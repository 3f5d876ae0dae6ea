use Rattle.staircase.specs.LeftSide.{drawn_matrix}
use Rattle.triangle.proofs.Rows.{AreChained}
use Rattle.triangle.proofs.chains.add_chains.Given as goal

abbrev pub invariant-loop-r : goal.invariant-loop-r
invariant-loop-r l = AreChained (drawn_matrix l.fn.rows l.fn.g) l.r l.rows l.g
