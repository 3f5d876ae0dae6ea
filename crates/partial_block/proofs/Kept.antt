-- What is read off from the reduced form of the residue is what the arrivals save.
use Rattle.std.proofs.Common.{◌≡◌, ◌≢◌, ◌⊎◌, inl, inr, ⊎_elim, ℕ, ◌<◌, false, List, []}
use Rattle.std.proofs.Common.{◌∷◌, length, get_or, sym, ap, ◌∙◌, subst, arith, true≢false, refl}
use Rattle.std.proofs.lemmas.List.{get_or_default}
use Rattle.fec_base.specs.Symbol.{zero_symbol}
use Rattle.sparse_rows.specs.Codeword.{Arrival, positions, symbol_at}
use Rattle.sparse_rows.specs.Closure.{flagged}
use Rattle.sparse_rows.specs.Fitting.{IsFitting}
use Rattle.sparse_rows.proofs.Sets.{true_or_false}
use Rattle.peeling.specs.Decoder.{Decoder, IsDecoder}
use Rattle.peeling.specs.Stands.{StandsFor}
use Rattle.peeling.specs.Laws.{KeptAreOfEachCodeword}
use Rattle.gauss.specs.Reduction.{IsReducedForm, ReducedForm, is_open, set_at}
use Rattle.gauss.specs.ReductionLaws.{ClosedIsFixed, FirstIsLeast}
use Rattle.fec_session.specs.Residue.{filled, place, residue, unknown_columns}
use Rattle.fec_session.specs.Pairing.{IsPairing, open_symbols}
use Rattle.fec_session.specs.NullPairing.{HasPlaces, IsNullPairing, IsUnknownColumn}
use Rattle.partial_block.specs.Through.{IsDetermined, IsThrough}
use Rattle.partial_block.specs.Saved.{HasSources, IsSavedOf, Saved, saved_at, through_at}
use Rattle.partial_block.specs.Laws.{DeterminedByNullWords}
use Rattle.partial_block.specs.ReadOff.{AreBytes, IsReadOff}
use Rattle.partial_block.proofs.Carried.{first_through}

-- whether a list has items
empty_or_not : (xs : List ℕ) → (xs ≡ []) ⊎ (xs ≢ [])
empty_or_not [] = inl refl
empty_or_not (x ∷ xs) = inr (λ e. cc)

-- an item inside a list, whatever the default
pub symbol_inside : (len : ℕ) (symbols : List (List ℕ)) (p : ℕ) → p < length symbols
    → symbol_at len symbols p ≡ get_or symbols p []
symbol_inside len symbols p lt = get_or_default symbols p (zero_symbol len) [] lt

-- a source symbol is a position of the code
pub source_below : (d : Decoder) → IsDecoder d → (e : ℕ) → e < d.matrix.k → e < d.matrix.n
source_below d is e lt = omega (arith, lt, is.code.shape.count)

module _ (d : Decoder) (arrivals : List Arrival) (r : ReducedForm) (saved : Saved)
    (is : IsDecoder d) (stands : StandsFor d arrivals) (form : IsReducedForm (residue d) r)
    (off : IsReadOff d r saved) (pairs : IsPairing d arrivals) (nulls : IsNullPairing d arrivals)
    (places : HasPlaces d) (first : FirstIsLeast) (fixed : ClosedIsFixed)
    (forced : KeptAreOfEachCodeword) (shown : DeterminedByNullWords) where
  -- the solution that the form has gives a codeword
  pub some_fits : (word : List (List ℕ)) × IsFitting d.matrix d.len arrivals word
  some_fits = (
    filled d (symbol_at d.len r.symbols),
    pairs.codeword
        (symbol_at d.len r.symbols) form.solves,
  )

  -- the bytes of a source symbol are those of each codeword that fits
  bytes_fit : (e : ℕ) → e < d.matrix.k → (bytes : List ℕ) → AreBytes d r e bytes
      → (word : List (List ℕ)) → IsFitting d.matrix d.len arrivals word
      → symbol_at d.len word e ≡ bytes
  bytes_fit e lt bytes are word fits = ⊎_elim
      (λ known. sym (forced d arrivals word stands fits.codeword fits.fits e known)
      ∙ sym (are.0 known))
      (λ unknown. at (source_below d is e lt, unknown) (are.1 unknown).0 ∙ sym (are.1 unknown).1)
      (true_or_false (flagged d.known e))
    where
      at : IsUnknownColumn d e → is_open r (place d e) ≡ false
          → symbol_at d.len word e ≡ get_or r.symbols (place d e) []
      at unknown closed =
          let inside : place d e < length (unknown_columns d) = places.inside e unknown in
          ap (symbol_at d.len word) (sym (places.same_column e unknown))
          ∙ fixed (residue d) r (open_symbols d word) (place d e) form (pairs.solution word fits)
          inside closed
          ∙ symbol_inside d.len r.symbols (place d e) (rw form.count inside)

  -- the columns at the first null set that holds a source symbol are the null word through it
  goes_through : (e : ℕ) → e < d.matrix.k → through_at saved e ≢ []
      → IsThrough d.matrix (positions arrivals) e (through_at saved e)
  goes_through e lt some =
      let by = off.through e lt some in
      subst (IsThrough d.matrix (positions arrivals) e) (sym by.2)
      (first_through d places arrivals nulls e (set_at r by.0)
      (source_below d is e lt, by.1.0) (first (residue d) r (place d e) by.0 form by.1.1))

  -- so it isn't determined
  none_through : (e : ℕ) → e < d.matrix.k → IsDetermined d.matrix d.len arrivals e
      → through_at saved e ≡ []
  none_through e lt same = ⊎_elim (λ none. none) (λ some.
      let through = goes_through e lt some in
      absurd (true≢false (sym through.of_kind
      ∙ (shown d.matrix d.len arrivals some_fits.0 e is.code.shape is.some some_fits.1).0 same
      (through_at saved e) through.reduced.one)))
      (empty_or_not (through_at saved e))

  pub is_saved : IsSavedOf d.matrix d.len arrivals saved
  is_saved = record {
    determined = λ e lt. (
      λ none word other fits other_fits.
          bytes_fit e lt (saved_at saved e) (off.determined e lt none) word fits
          ∙ sym (bytes_fit e lt (saved_at saved e) (off.determined e lt none) other other_fits),
      none_through e lt,
    );
    symbol = λ e lt none word fits. bytes_fit e lt (saved_at saved e) (off.determined e lt none)
        word fits;
    through = goes_through;
  }

-- what is read off has the source symbols of the code, of the decoder's length
pub has_sources : (d : Decoder) (r : ReducedForm) (saved : Saved) → IsDecoder d
    → IsReducedForm (residue d) r → HasPlaces d → IsReadOff d r saved
    → HasSources d.matrix.k d.len saved
has_sources d r saved is form places off = record {
  symbols = off.symbols;
  throughs = off.throughs;
  long = λ e lt none.
      let are = off.determined e lt none in
      let below : e < d.matrix.n = source_below d is e lt in
      ⊎_elim
      (λ known. ap length (are.0 known)
      ∙ (is.bytes e (zero_symbol d.len) (rw is.symbols below)).long)
      (λ unknown.
      let inside : place d e < length (unknown_columns d) = places.inside e (below, unknown) in
      ap length ((are.1 unknown).1
      ∙ sym (symbol_inside d.len r.symbols (place d e) (rw form.count inside)))
      ∙ (form.solves.symbols (place d e)).long)
      (true_or_false (flagged d.known e));
}
