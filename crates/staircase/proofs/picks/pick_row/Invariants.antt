use Rattle.std.proofs.Common.{◌-◌}
use Rattle.staircase.specs.LeftSide.{lacks}
use Rattle.staircase.proofs.FirstDraw.{IsSearching}
use Rattle.staircase.proofs.picks.pick_row.Given as goal

abbrev pub invariant-loop-row : goal.invariant-loop-row
invariant-loop-row l = IsSearching l.count (lacks l.rows l.c) l.initial.g l.g

abbrev pub decreases-loop-row : goal.decreases-loop-row
decreases-loop-row l = l.g.limit - l.g.used
