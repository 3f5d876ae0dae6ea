-- The pieces and words of a block, gathered.
use Rattle.std.proofs.Common.{◌≡◌, ◌≢◌, ℕ, ◌<◌, List, [], ◌∷◌, length, get_or, map, slice_index}
use Rattle.std.proofs.Common.{refl, sym, ap, ◌∙◌, subst, true≢false}
use Rattle.std.proofs.lemmas.List.{get_or-map, get_or_default, length-map}
use Rattle.sparse_rows.specs.Matrix.{is_in}
use Rattle.peeling.specs.Decoder.{Decoder}
use Rattle.gauss.specs.Reduction.{ReducedForm, set_at}
use Rattle.fec_session.specs.Residue.{columns_at, place, unknown_columns}
use Rattle.partial_block.specs.Saved.{saved_at, through_at}
use Rattle.partial_block.specs.Pieces.{bytes_of, saved_of, word_of}
use Rattle.partial_block.specs.ReadOff.{AreBytes, ArePieces, AreNullWords, IsOpenBy}
use Rattle.partial_block.specs.ReadOff.{IsPieceOf, IsReadOff}
use Rattle.partial_block.specs.declared.saved.Piece.{Piece}
use Rattle.partial_block.specs.declared.saved.Piece.TheVariants as piece

-- a map without items comes from none
map_empty : (f : ℕ → ℕ) (xs : List ℕ) → map f xs ≡ [] → xs ≡ []
map_empty f [] e = refl
map_empty f (x ∷ xs) e = absurd (cc)

-- the columns of the first null set that holds a source symbol
some_columns : (d : Decoder) (r : ReducedForm) (e i : ℕ) → IsOpenBy d r e i
    → columns_at d (set_at r i) ≢ []
some_columns d r e i by none = true≢false (sym by.1.holds
    ∙ ap (λ (s : List ℕ). is_in s (place d e))
    (map_empty (slice_index (unknown_columns d)) (set_at r i) none))

module _ (d : Decoder) (r : ReducedForm) (columns : List ℕ) (pieces : List Piece)
    (words : List (List ℕ)) (same : columns ≡ unknown_columns d) (are : ArePieces d r pieces)
    (made : AreNullWords columns r pieces words) where
  module _ (e : ℕ) (lt : e < d.matrix.k) where
    abbrev own : Piece
    own = get_or pieces e (piece.Open 0)

    inside : e < length pieces
    inside = rw are.count lt

    word_is : (i : ℕ) → own ≡ piece.Open i → IsOpenBy d r e i
        → get_or words i [] ≡ columns_at d (set_at r i)
    word_is i is by = made.each i by.1.inside
        (e, inside, get_or_default pieces e (piece.Open i) (piece.Open 0) inside ∙ is)
        ∙ ap (λ (cs : List ℕ). map (slice_index cs) (set_at r i)) same

    bytes_case : (q : Piece) → own ≡ q → IsPieceOf d r e q → word_of words q ≡ []
        → AreBytes d r e (bytes_of q)
    bytes_case (piece.Determined bytes) is given none = given
    bytes_case (piece.Open i) is given none =
        absurd (some_columns d r e i given (sym (word_is i is given) ∙ none))

    word_case : (q : Piece) → own ≡ q → IsPieceOf d r e q → word_of words q ≢ []
        → (i : ℕ) × IsOpenBy d r e i × (word_of words q ≡ columns_at d (set_at r i))
    word_case (piece.Determined bytes) is given some = absurd (some refl)
    word_case (piece.Open i) is given some = (i, given, word_is i is given)

    through_is : through_at (saved_of pieces words) e ≡ word_of words own
    through_is = get_or-map (word_of words) pieces e (piece.Open 0) [] inside

    bytes_are : saved_at (saved_of pieces words) e ≡ bytes_of own
    bytes_are = get_or-map bytes_of pieces e (piece.Open 0) [] inside

    at_bytes : through_at (saved_of pieces words) e ≡ []
        → AreBytes d r e (saved_at (saved_of pieces words) e)
    at_bytes none = subst (AreBytes d r e) (sym bytes_are)
        (bytes_case own refl (are.each e (piece.Open 0) lt) (sym through_is ∙ none))

    at_word : through_at (saved_of pieces words) e ≢ []
        → (i : ℕ) × IsOpenBy d r e i
        × (through_at (saved_of pieces words) e ≡ columns_at d (set_at r i))
    at_word some =
        let w = word_case own refl (are.each e (piece.Open 0) lt)
        (λ none. some (through_is ∙ none)) in
        (w.0, w.1, through_is ∙ w.2)

  -- they are what is read off
  pub gathered : IsReadOff d r (saved_of pieces words)
  gathered = record {
    symbols = length-map pieces bytes_of ∙ are.count;
    throughs = length-map pieces (word_of words) ∙ are.count;
    determined = at_bytes;
    through = at_word;
  }
