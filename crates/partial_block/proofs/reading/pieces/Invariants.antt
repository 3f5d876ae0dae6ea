use Rattle.std.proofs.Common.{◌≡◌, ◌<◌, ℕ, length, get_or}
use Rattle.partial_block.specs.ReadOff.{IsPieceOf}
use Rattle.partial_block.specs.declared.saved.Piece.{Piece}
use Rattle.partial_block.proofs.reading.pieces.Given as goal

abbrev pub invariant-loop-e : goal.invariant-loop-e
invariant-loop-e l = record {
  count : length l.pieces.items ≡ l.e;
  each : (i : ℕ) (x : Piece) → i < l.e → IsPieceOf l.core l.reduced i (get_or l.pieces.items i x);
}
