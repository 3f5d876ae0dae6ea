use Rattle.std.proofs.Common.{◌≡◌}
use Rattle.parity_2d.proofs.Sources.{all_below}
use Rattle.parity_2d.proofs.grid.add_sources.Given as goal

abbrev pub invariant-loop-c : goal.invariant-loop-c
invariant-loop-c l = l.rows ≡ record l.fn.rows { rows = all_below l.k l.width l.corners l.c }
