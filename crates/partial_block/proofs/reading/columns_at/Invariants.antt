use Rattle.std.proofs.Common.{◌≡◌, map, slice_index, take}
use Rattle.partial_block.proofs.reading.columns_at.Given as goal

abbrev pub invariant-loop-place : goal.invariant-loop-place
invariant-loop-place l = l.word.items ≡ map (slice_index l.columns) (take l.place-index l.places)
