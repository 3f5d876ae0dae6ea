use Rattle.std.proofs.Common.{◌-◌, length, slice_index}
use Rattle.staircase.specs.LeftSide.{lacks}
use Rattle.staircase.proofs.FirstDraw.{IsSearching}
use Rattle.staircase.proofs.picks.pick_choice.Given as goal

abbrev pub invariant-loop-place : goal.invariant-loop-place
invariant-loop-place l = IsSearching (length l.choices.list)
    (λ place. lacks l.rows l.c (slice_index l.choices.list place)) l.initial.g l.g

abbrev pub decreases-loop-place : goal.decreases-loop-place
decreases-loop-place l = l.g.limit - l.g.used
