use Rattle.std.proofs.Common.{◌≡◌, ◌⊎◌, ℕ, ◌+◌, ◌-◌, ◌*◌, ◌%◌, ◌<◌, ◌≤◌, get_or}
use Rattle.xor_lanes.specs.Sums.{summed_byte}
use Rattle.xor_lanes.proofs.sums.add_columns.Given as goal

abbrev pub invariant-loop-at : goal.invariant-loop-at
invariant-loop-at l = record {
  room : l.at ≤ l.stride;
  whole : l.at % 32 ≡ 0;
  done : (j : ℕ) → j < l.at → get_or l.all (l.own * l.stride + j) 0 ≡ summed_byte l.initial.all
      l.stride l.own l.columns j;
  rest : (k : ℕ) → (k < l.own * l.stride) ⊎ (l.own * l.stride + l.at ≤ k)
      → get_or l.all k 0 ≡ get_or l.initial.all k 0;
}

abbrev pub decreases-loop-at : goal.decreases-loop-at
decreases-loop-at l = l.stride + 1 - l.at
