use Rattle.std.proofs.Common.{◌-◌}
use Rattle.staircase.specs.LeftSide.{lacks}
use Rattle.staircase.proofs.FirstDraw.{IsSearching}
use Rattle.staircase.proofs.picks.pick_column.Given as goal

abbrev pub invariant-loop-column : goal.invariant-loop-column
invariant-loop-column l = IsSearching l.k (λ column. lacks l.rows column l.r) l.initial.g l.g

abbrev pub decreases-loop-column : goal.decreases-loop-column
decreases-loop-column l = l.g.limit - l.g.used
