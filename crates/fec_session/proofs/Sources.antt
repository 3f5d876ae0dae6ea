-- The source symbols of a block that was determined.
use Rattle.std.proofs.Common.{◌≡◌, ℕ, ◌<◌, ◌≤◌, Bool, false, List, [], length, get_or, slice_index}
use Rattle.std.proofs.Common.{Option, Some, sym, ap, ◌∙◌, subst, arith, zero-add}
use Rattle.std.specs.List.{Contains}
use Rattle.std.specs.List.Sorted.{IsStrictlyIncreasing}
use Rattle.std.proofs.lemmas.List.{get_or_default}
use Rattle.std.proofs.lemmas.List.FromFn.{get_or-map-range_with_len, length-map-range_with_len}
use Rattle.fec_base.specs.Symbol.{zero_symbol}
use Rattle.sparse_rows.specs.Closure.{flagged}
use Rattle.sparse_rows.specs.Codeword.{symbol_at}
use Rattle.peeling.specs.Decoder.{Decoder, IsDecoder}
use Rattle.fec_session.specs.Block.{Block}
use Rattle.fec_session.specs.Residue.{completed, place, unknown_columns}
use Rattle.fec_session.specs.Kept.{AreValues, HasSymbols, source_of}
use Rattle.fec_session.specs.declared.verdict.Solved.{Solved}
use Rattle.fec_session.proofs.Columns.{unknown_few, unknown_rise}
use Rattle.fec_session.proofs.Residues.{column_place, completed_open, place_below}

-- there are k of them
pub source_length : (d : Decoder) (values : List (List ℕ))
    → length (source_of d values) ≡ d.matrix.k
source_length d values =
    length-map-range_with_len (completed d (symbol_at d.len values)) 0 d.matrix.k

-- each is the one that is kept, or its column's value
pub source_at : (d : Decoder) (values : List (List ℕ)) (e : ℕ) → e < d.matrix.k
    → get_or (source_of d values) e [] ≡ completed d (symbol_at d.len values) e
source_at d values e lt = get_or-map-range_with_len (completed d (symbol_at d.len values)) 0
    d.matrix.k e e [] lt (zero-add e)

-- a place in the source of such a block is a source position
pub within_source : (d : Decoder) (values : List (List ℕ)) (p : Bool) (b : Block) (e : ℕ)
    → record { source = source_of d values; by_peeling = p } ≡ b → e < length b.source
    → e < d.matrix.k
within_source d values p b e is lt =
    subst (λ (n : ℕ). e < n) (sym (ap (λ (x : Block). length x.source) is) ∙ source_length d values)
    lt

-- what is there
pub source_symbol : (d : Decoder) (values : List (List ℕ)) (p : Bool) (b : Block) (e : ℕ)
    → record { source = source_of d values; by_peeling = p } ≡ b → e < length b.source
    → completed d (symbol_at d.len values) e ≡ get_or b.source e []
source_symbol d values p b e is lt = sym (source_at d values e (within_source d values p b e is lt))
    ∙ ap (λ (x : Block). get_or x.source e []) is

-- ---- a column that the decoder doesn't know, and its value

module _ (d : Decoder) (columns : List ℕ) (values : List (List ℕ))
    (are : AreValues d columns values) where
  pub columns_rising : IsStrictlyIncreasing columns
  columns_rising = subst IsStrictlyIncreasing (sym are.columns_are) (unknown_rise d)

  pub columns_few : IsDecoder d → length columns ≤ 65536
  columns_few is = omega (arith, unknown_few d, ap length are.columns_are, is.code.most)

  module _ (c : ℕ) (lt : c < d.matrix.n) (unkept : flagged d.known c ≡ false) where
    -- it is among the columns, at its place
    pub column_there : Contains columns c
    column_there = subst (λ (cs : List ℕ). Contains cs c) (sym are.columns_are) (
      place d c,
      place_below d c lt unkept,
      sym (get_or_default (unknown_columns d) (place d c) 0 c (place_below d c lt unkept))
          ∙ column_place d c lt unkept,
    )

    place_inside : place d c < length columns
    place_inside = subst (λ (cs : List ℕ). place d c < length cs) (sym are.columns_are)
        (place_below d c lt unkept)

    place_valued : place d c < length values
    place_valued = subst (λ (n : ℕ). place d c < n) (sym are.count) place_inside

    -- what stands there among the values is its symbol, of the length of a symbol
    pub value_completes : (bytes : List ℕ) → ((i : ℕ) → i < length columns
        → slice_index columns i ≡ c → bytes ≡ get_or values i [])
        → (bytes ≡ completed d (symbol_at d.len values) c) × (length bytes ≡ d.len)
    value_completes bytes at =
        let column_is : slice_index columns (place d c) ≡ c =
        ap (λ (cs : List ℕ). slice_index cs (place d c)) are.columns_are
        ∙ column_place d c lt unkept in
        let is : bytes ≡ get_or values (place d c) [] = at (place d c) place_inside column_is in (
          is ∙ get_or_default values (place d c) [] (zero_symbol d.len) place_valued
              ∙ sym (completed_open d (symbol_at d.len values) c unkept),
          ap length is ∙ are.long (place d c) [] place_valued,
        )

-- what a block that elimination solved has
pub solved_values : (d : Decoder) (o : Option Solved) (solved : Solved) → o ≡ Some solved
    → HasSymbols d o
    → AreValues d solved.columns.items solved.values
solved_values d o solved is has = subst (HasSymbols d) is has
