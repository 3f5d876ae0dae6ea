use Rattle.std.proofs.Common.{◌≡◌, ◌<◌, ℕ, length, get_or, true}
use Rattle.sparse_rows.specs.Closure.{flagged}
use Rattle.partial_block.specs.declared.saved.Piece.TheVariants as piece
use Rattle.partial_block.proofs.reading.mark_used.Given as goal

abbrev pub invariant-loop-piece : goal.invariant-loop-piece
invariant-loop-piece l = record {
  length : length l.used ≡ length l.initial.used;
  used : (j i : ℕ) → j < l.piece-index → get_or l.pieces j (piece.Open i) ≡ piece.Open i
      → flagged l.used i ≡ true;
}
