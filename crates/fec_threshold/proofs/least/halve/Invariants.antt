use Rattle.std.proofs.Common.{length, ◌-◌, ◌≤◌}
use Rattle.fec_threshold.proofs.Prefixes.{Between}
use Rattle.fec_threshold.proofs.least.halve.Given as goal

abbrev pub invariant-loop-low : goal.invariant-loop-low
invariant-loop-low l = record {
  order : l.low ≤ l.high;
  within : l.high ≤ length l.order;
  between : Between l.code l.order l.low l.high;
}

abbrev pub decreases-loop-low : goal.decreases-loop-low
decreases-loop-low l = l.high - l.low
