use Rattle.std.proofs.Common.{◌≡◌}
use Rattle.parity_2d.proofs.Parities.{parities_below}
use Rattle.parity_2d.proofs.grid.add_parities.Given as goal

abbrev pub invariant-loop-r : goal.invariant-loop-r
invariant-loop-r l = l.rows ≡ record l.fn.rows { rows = parities_below l.fn.rows l.r }
