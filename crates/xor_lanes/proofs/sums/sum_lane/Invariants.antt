use Rattle.std.proofs.Common.{◌≡◌, ℕ, ◌+◌, ◌<◌, get_or, take}
use Rattle.xor_lanes.specs.Sums.{summed_byte}
use Rattle.xor_lanes.proofs.sums.sum_lane.Given as goal

abbrev pub invariant-loop-i : goal.invariant-loop-i
invariant-loop-i l = (j : ℕ) → j < 32 → get_or l.sum j 0 ≡ summed_byte l.all l.stride l.own
    (take l.i l.columns) (l.at + j)
