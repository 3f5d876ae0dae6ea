-- The unknown columns of a row, read one by one, and the rows that have some.
use Rattle.std.proofs.Common.{◌≡◌, ◌↔◌, ℕ, zero, suc, ◌+◌, ◌-◌, ◌<◌, Bool, true, false, not, cond}
use Rattle.std.proofs.Common.{List, [], ◌∷◌, ◌++◌, length, get_or, take, map, filter, All, Option}
use Rattle.std.proofs.Common.{IsSome, refl, sym, ap, ap₂, ◌∙◌, arith, append-nil}
use Rattle.std.specs.List.{range_with_len}
use Rattle.std.specs.List.Sorted.{IsStrictlyIncreasing}
use Rattle.std.specs.Option.{is_some}
use Rattle.std.proofs.Math.Bool.{not-not}
use Rattle.std.proofs.lemmas.List.Elements.{filter_more, filter_passes, All-from_get_or, All-filter}
use Rattle.std.proofs.lemmas.List.Elements.{All-map}
use Rattle.std.proofs.lemmas.List.{get_or-take, length-take}
use Rattle.std.proofs.lemmas.List.FromFn.{length-map-range_with_len, get_or-map-range_with_len}
use Rattle.std.proofs.lemmas.List.Kept.{AllPairs-from_increasing}
use Rattle.fec_base.specs.Symbol.{xor, xor_sum}
use Rattle.sparse_rows.specs.Matrix.{Matrix, IsRow, row_of}
use Rattle.sparse_rows.specs.Codeword.{IsAssignment}
use Rattle.sparse_rows.specs.Closure.{Set, flagged, outside}
use Rattle.sparse_rows.proofs.Sets.{same_test}
use Rattle.sparse_rows.proofs.Planes.{symbol_at_is}
use Rattle.sparse_rows.proofs.Symbols.{xor_sum_push}
use Rattle.peeling.specs.Decoder.{Decoder, IsDecoder, kept}
use Rattle.peeling.proofs.Columns.{column_read}
use Rattle.fec_session.specs.Residue.{has_any, place}
use Rattle.fec_session.proofs.Places.{rank_less}

-- a column is unknown where no symbol is read
pub unknown_is : {T : Type 0} (r : Option T) (flag none : Bool) → (IsSome r ↔ (flag ≡ true))
    → is_some r ≡ not none → not flag ≡ none
unknown_is r flag none h e = ap not (same_test flag (is_some r) h.1 h.0 ∙ e) ∙ not-not none

-- c is column i of row r
pub record IsRead (d : Decoder) (r i c : ℕ) : Type 0 where
  pub inside : i < length (row_of d.matrix r)
  pub is : c ≡ get_or (row_of d.matrix r) i 0
  pub below : c < d.matrix.n

-- a column that is read of the row that the code has
pub is_read : (d : Decoder) → IsDecoder d → (r : ℕ) → r < d.matrix.n - d.matrix.k → (m m2 : Matrix)
    → m ≡ d.matrix → m2 ≡ d.matrix → (i end c : ℕ) → end ≡ length (row_of m r) → i < end
    → c ≡ get_or (row_of m2 r) i 0 → IsRead d r i c
is_read d decoder r lt m m2 e e2 i end c long before read =
    let inside : i < length (row_of d.matrix r) =
    omega (arith, long ∙ ap (λ (a : Matrix). length (row_of a r)) e) in
    let here : c ≡ get_or (row_of d.matrix r) i 0 = read
    ∙ ap (λ (a : Matrix). get_or (row_of a r) i 0) e2 in
    record {
      inside = inside;
      is = here;
      below = column_read d.matrix decoder.code r lt i c inside
          here;
    }

-- a list with an item that passes
pub has_any_at : (p : ℕ → Bool) (row : List ℕ) (i : ℕ) → i < length row → p (get_or row i 0) ≡ true
    → has_any (filter p row) ≡ true
has_any_at p [] i lt e = absurd (omega arith)
has_any_at p (x ∷ row) zero lt e = rw e refl
has_any_at p (x ∷ row) (suc i) lt e = later (p x) (has_any_at p row i (omega arith) e)
  where
    later : (b : Bool) → has_any (filter p row) ≡ true
        → has_any (cond b (x ∷ filter p row) (filter p row)) ≡ true
    later true h = refl
    later false h = h

-- the symbols that are kept, as an assignment
pub kept_is : (d : Decoder) → IsDecoder d → IsAssignment d.len (kept d)
kept_is d decoder = symbol_at_is d.len d.symbols decoder.bytes

module _ (d : Decoder) (r i c : ℕ) (read : IsRead d r i c) where
  abbrev row : List ℕ
  row = row_of d.matrix r

  -- a column that passes is the last of those that do so far
  pub pass_yes : (p : Set) → p c ≡ true → filter p (take (i + 1) (row_of d.matrix r))
      ≡ filter p (take i (row_of d.matrix r)) ++ c ∷ []
  pass_yes p e = filter_more p row i 0 read.inside
      ∙ ap (λ (a : ℕ). filter p (take i row) ++ cond (p a) (a ∷ []) []) (sym read.is)
      ∙ ap (λ b. filter p (take i row) ++ cond b (c ∷ []) []) e

  -- another one changes nothing
  pub pass_no : (p : Set) → p c ≡ false → filter p (take (i + 1) (row_of d.matrix r))
      ≡ filter p (take i (row_of d.matrix r))
  pass_no p e = filter_more p row i 0 read.inside
      ∙ ap (λ (a : ℕ). filter p (take i row) ++ cond (p a) (a ∷ []) []) (sym read.is)
      ∙ ap (λ b. filter p (take i row) ++ cond b (c ∷ []) []) e ∙ append-nil (filter p (take i row))

  -- one known symbol more
  pub sum_known : IsDecoder d → flagged d.known c ≡ true → (sum symbol new : List ℕ)
      → sum ≡ xor_sum d.len (kept d) (filter (flagged d.known) (take i (row_of d.matrix r)))
      → symbol ≡ kept d c → new ≡ xor sum symbol
      → new ≡ xor_sum d.len (kept d) (filter (flagged d.known) (take (i + 1) (row_of d.matrix r)))
  sum_known decoder known sum symbol new sum_is symbol_is new_is =
      let before : List ℕ = filter (flagged d.known) (take i row) in
      new_is ∙ ap₂ xor sum_is symbol_is
      ∙ sym (ap (xor_sum d.len (kept d)) (pass_yes (flagged d.known) known)
      ∙ xor_sum_push d.len (kept d) (λ b. (kept_is d decoder b).long) before c)

module _ (d : Decoder) (places : List ℕ)
    (are : places ≡ map (place d) (range_with_len 0 d.matrix.n)) where
  -- there is a place for each column
  pub places_long : length places ≡ d.matrix.n
  places_long = ap length are ∙ length-map-range_with_len (place d) 0 d.matrix.n

  -- the place of a column, read from the list
  pub place_at : (c : ℕ) → c < d.matrix.n → get_or places c 0 ≡ place d c
  place_at c lt = ap (λ (xs : List ℕ). get_or xs c 0) are ∙ get_or-map-range_with_len (place d) 0
      d.matrix.n c c 0 lt (omega arith)

-- the columns of a row before its i-th lie below it
row_before : (row : List ℕ) (i : ℕ) → IsStrictlyIncreasing row → i < length row
    → All (λ b. b < get_or row i 0) (take i row)
row_before row i rising lt = All-from_get_or (λ b. b < get_or row i 0) (take i row) 0
    (λ j inside. let first : j < i = omega (arith, inside, length-take i row) in
    rw (get_or-take i row j 0 first) (AllPairs-from_increasing row rising j i 0 first lt))

-- the places of the unknown columns before one lie below its own
pub places_before : (d : Decoder) → IsDecoder d → (r i c : ℕ) → r < d.matrix.n - d.matrix.k
    → IsRead d r i c → All (λ p. p < place d c)
    (map (place d) (outside (flagged d.known) (take i (row_of d.matrix r))))
places_before d decoder r i c lt read =
    let row : List ℕ = row_of d.matrix r in
    let unknown : Set = λ (b : ℕ). not (flagged d.known b) in
    let is : IsRow d.matrix.k (d.matrix.k + r) row = decoder.code.shape.row r
    (omega (arith, decoder.code.shape.count)) in
    let below : All (λ b. b < c) (take i row) =
    rw read.is (row_before row i is.rising read.inside) in
    All-map (λ p. p < place d c) (place d) (outside (flagged d.known) (take i row))
    (λ j e inside. rank_less unknown _ c (filter_passes unknown (take i row) j e inside)
    (All-filter unknown (λ b. b < c) (take i row) below j e inside))
