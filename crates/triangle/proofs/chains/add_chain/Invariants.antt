use Rattle.staircase.specs.LeftSide.{drawn_matrix}
use Rattle.triangle.proofs.Chained.{IsChained}
use Rattle.triangle.proofs.chains.add_chain.Given as goal

abbrev pub invariant-loop-links : goal.invariant-loop-links
invariant-loop-links l = IsChained l.r (drawn_matrix l.fn.rows l.fn.g) l.links l.reached l.rows l.g

abbrev pub decreases-loop-links : goal.decreases-loop-links
decreases-loop-links l = l.reached
