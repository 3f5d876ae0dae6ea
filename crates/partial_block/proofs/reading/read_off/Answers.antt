use Rattle.std.proofs.Common.{ℕ, List, sym, subst}
use Rattle.partial_block.specs.Saved.{Saved}
use Rattle.partial_block.specs.ReadOff.{AreNullWords, IsReadOff}
use Rattle.partial_block.specs.declared.saved.Piece.{Piece}
use Rattle.partial_block.proofs.Gathered.{gathered}
use Rattle.partial_block.proofs.reading.read_off.Goals as goal

pub returns : goal.returns
returns c =
    let d = c.args.core.now in
    let r = c.args.reduced.now in
    let words : List (List ℕ) = c.in_ok-words.words.items in
    let made = subst (λ (ps : List Piece). AreNullWords c.args.columns.now r ps words)
    c.deref.ensures.value c.in_ok-words.ensures in
    subst (λ (s : Saved). IsReadOff d r s) (sym c.new.ensures)
    (gathered d r c.args.columns.now c.in_ok-pieces.pieces.items words c.requires.columns
    c.in_ok-pieces.ensures made)
