-- Reduced null sets of the residue, and reduced null words of what arrived.
use Rattle.std.proofs.Common.{◌≡◌, ℕ, ◌<◌, ◌≤◌, ⊎_elim, true, List, length}
use Rattle.std.proofs.Common.{sym, ap, ◌∙◌, subst, arith, slice_index}
use Rattle.std.proofs.lemmas.Bool.{cases_lt}
use Rattle.sparse_rows.specs.Matrix.{is_in}
use Rattle.sparse_rows.specs.Codeword.{Arrival, positions}
use Rattle.sparse_rows.specs.NullWord.{IsNullWord, last_of}
use Rattle.sparse_rows.proofs.Null.{in_all}
use Rattle.null_witness.specs.ReducedWords.{IsFirstReducedWord, IsReducedWord}
use Rattle.null_witness.proofs.Increasing.{last_in}
use Rattle.peeling.specs.Decoder.{Decoder}
use Rattle.gauss.specs.Reduction.{IsNullSet}
use Rattle.fec_session.specs.Residue.{columns_at, place, places_of, residue, unknown_columns}
use Rattle.fec_session.specs.NullPairing.{HasPlaces, IsNullPairing, IsUnknownColumn}
use Rattle.fec_session.proofs.Verdicts.{in_map, last_map, map_in}
use Rattle.partial_block.specs.Through.{IsThrough}

-- ---- places and columns

-- the unknown column at a place
abbrev pub column : Decoder → ℕ → ℕ
column d i = slice_index (unknown_columns d) i

module _ (d : Decoder) (places : HasPlaces d) (arrivals : List Arrival)
    (pairs : IsNullPairing d arrivals) where
  abbrev IsWord : List ℕ → Type 0
  IsWord = IsNullWord d.matrix (positions arrivals)

  abbrev IsSet : List ℕ → Type 0
  IsSet = IsNullSet (residue d)

  -- the places of a null set are places of unknown columns
  set_below : (set : List ℕ) → IsSet set → (i : ℕ) → is_in set i ≡ true
      → i < length (unknown_columns d)
  set_below set null i e = in_all (λ j. j < length (unknown_columns d)) set null.below i e

  -- a column of a null word is unknown, and its place is in the null set
  pub word_unknown : (word : List ℕ) → IsWord word → (c : ℕ) → is_in word c ≡ true
      → IsUnknownColumn d c
  word_unknown word null c e =
      let set = places_of d word in
      let again = subst (λ (w : List ℕ). is_in w c ≡ true) (sym (pairs.same_word word null)) e in
      let r = in_map (column d) set c again in
      subst (IsUnknownColumn d) r.2
      (places.column r.0 (set_below set (pairs.set word null) r.0 r.1))

  -- a null set holds a place exactly where its columns hold the column there
  column_in : (set : List ℕ) → IsSet set → (c : ℕ) → is_in (columns_at d set) c ≡ true
      → is_in set (place d c) ≡ true
  column_in set null c e =
      let r = in_map (column d) set c e in
      subst (λ (i : ℕ). is_in set i ≡ true)
      (sym (places.same_place r.0 (set_below set null r.0 r.1)) ∙ ap (place d) r.2) r.1

  place_in : (word : List ℕ) → IsWord word → (i : ℕ) → is_in (places_of d word) i ≡ true
      → is_in word (column d i) ≡ true
  place_in word null i e =
      let r = in_map (place d) word i e in
      subst (λ (c : ℕ). is_in word c ≡ true)
      (sym (places.same_column r.0 (word_unknown word null r.0 r.1)) ∙ ap (column d) r.2) r.1

  -- ---- reduced ones

  -- the columns at a reduced null set are a reduced null word
  reduced_word : (set : List ℕ) → IsReducedWord IsSet set → IsReducedWord IsWord (columns_at d set)
  reduced_word set reduced = record {
    one = word;
    only = λ c late e.
        let ends = (pairs.late_word c).0 late in
        let at : place d c ≡ last_of set = reduced.only (place d c) ends.1
        (column_in set reduced.one c e) in
        sym (places.same_column c ends.0) ∙ ap (column d) at
        ∙ sym (last_map (column d) set reduced.one.nonempty);
  }
    where
      word : IsWord (columns_at d set)
      word = pairs.word set reduced.one

  -- and the places of a reduced null word a reduced null set
  reduced_set : (word : List ℕ) → IsReducedWord IsWord word → IsReducedWord IsSet (places_of d word)
  reduced_set word reduced = record {
    one = pairs.set word reduced.one;
    only = λ i late e.
        let ends = (pairs.late_set i).0 late in
        let at : column d i ≡ last_of word = reduced.only (column d i) ends.1
        (place_in word reduced.one i e) in
        sym (places.same_place i ends.0) ∙ ap (place d) at
        ∙ sym (last_map (place d) word reduced.one.nonempty);
  }

  -- the first reduced null set that holds the place of a column gives the null word through it
  pub first_through : (e : ℕ) (set : List ℕ) → IsUnknownColumn d e
      → IsFirstReducedWord IsSet (λ s. is_in s (place d e) ≡ true) set
      → IsThrough d.matrix (positions arrivals) e (columns_at d set)
  first_through e set unknown first = record {
    reduced = reduced_word set first.reduced;
    of_kind = subst (λ (c : ℕ). is_in (columns_at d set) c ≡ true) (places.same_column e unknown)
        (map_in (column d) set (place d e) first.of_kind);
    least = least;
  }
    where
      least : (other : List ℕ) → IsReducedWord IsWord other → is_in other e ≡ true
          → last_of (columns_at d set) ≤ last_of other
      least other reduced holds =
          let null = reduced.one in
          let last : ℕ = last_of other in
          let is_last = word_unknown other null last (last_in other null.nonempty) in
          let most : last_of set ≤ place d last = subst (λ (i : ℕ). last_of set ≤ i)
          (last_map (place d) other null.nonempty)
          (first.least (places_of d other) (reduced_set other reduced)
          (map_in (place d) other e holds)) in
          let ends = last_map (column d) set first.reduced.one.nonempty in
          let back : place d (column d (last_of set)) ≡ last_of set =
          places.same_place (last_of set) (set_below set first.reduced.one (last_of set)
          (last_in set first.reduced.one.nonempty)) in
          ⊎_elim
          (λ (lt : last < column d (last_of set)).
          let less = places.rising last (column d (last_of set)) is_last lt in
          absurd (omega (arith, less, most, back)))
          (λ (le : column d (last_of set) ≤ last). omega (arith, le, ends))
          (cases_lt last (column d (last_of set)))
