use Rattle.std.proofs.Common.{◌≡◌}
use Rattle.staircase.proofs.RightSide.{stairs_below}
use Rattle.staircase.proofs.stairs.add_stairs.Given as goal

abbrev pub invariant-loop-r : goal.invariant-loop-r
invariant-loop-r l = l.rows ≡ record l.fn.rows { rows = stairs_below l.fn.rows l.r }
