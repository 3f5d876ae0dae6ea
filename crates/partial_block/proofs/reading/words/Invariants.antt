use Rattle.std.proofs.Common.{◌≡◌, ◌<◌, ℕ, [], length, get_or, map, slice_index, true}
use Rattle.sparse_rows.specs.Closure.{flagged}
use Rattle.gauss.specs.Reduction.{set_at}
use Rattle.partial_block.proofs.reading.words.Given as goal

abbrev pub invariant-loop-i : goal.invariant-loop-i
invariant-loop-i l = record {
  count : length l.words.items ≡ l.i;
  each : (j : ℕ) → j < l.i → flagged l.used.items j ≡ true
      → get_or l.words.items j [] ≡ map (slice_index l.columns) (set_at l.reduced j);
}
