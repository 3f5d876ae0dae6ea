-- Null words of what arrived, and null sets of the residue, in pairs.
use Rattle.std.proofs.Common.{◌≡◌, ◌↔◌, ℕ, ◌<◌, true, List, [], ◌∷◌, length, map, All, refl, ap}
use Rattle.std.proofs.Common.{ap₂, true≢false, sym, subst, ◌∙◌}
use Rattle.std.proofs.lemmas.Bool.{false_from_ne_true}
use Rattle.std.proofs.lemmas.List.Elements.{All-from_get_or, All-head, All-tail}
use Rattle.sparse_rows.specs.Matrix.{is_in}
use Rattle.sparse_rows.specs.Codeword.{Arrival, positions}
use Rattle.sparse_rows.specs.NullWord.{IsNullWord, last_of}
use Rattle.sparse_rows.proofs.Null.{in_all, in_at}
use Rattle.null_witness.specs.ReducedWords.{IsLate}
use Rattle.null_witness.proofs.Increasing.{last_in}
use Rattle.peeling.specs.Decoder.{Decoder, IsDecoder}
use Rattle.peeling.specs.Stands.{StandsFor}
use Rattle.gauss.specs.Reduction.{IsNullSet}
use Rattle.fec_session.specs.Residue.{columns_at, place, places_of, residue, unknown_columns}
use Rattle.fec_session.specs.NullPairing.{IsUnknownColumn, NullWordsPairWithNullSets}
use Rattle.fec_session.specs.NullPairing.{PlacesAreOfColumns}
use Rattle.fec_session.proofs.Residues.{column, column_is, column_place, place_below, place_less}
use Rattle.fec_session.proofs.Verdicts.{from_null_set, last_map, null_unknown, to_null_set}

-- a map that a second one undoes
undone : (f g : ℕ → ℕ) (xs : List ℕ) → All (λ x. f (g x) ≡ x) xs → map f (map g xs) ≡ xs
undone f g [] h = refl
undone f g (x ∷ xs) h = ap₂ (λ y ys. y ∷ ys) (All-head (λ x. f (g x) ≡ x) x xs h)
    (undone f g xs (All-tail (λ x. f (g x) ≡ x) x xs h))

-- the places are those of the unknown columns
pub places_are : PlacesAreOfColumns
places_are d = record {
  column = λ i lt. let is = column_is d i lt in (is.1, is.0);
  inside = λ c unknown. place_below d c unknown.0 unknown.1;
  same_column = λ c unknown. column_place d c unknown.0 unknown.1;
  same_place = λ i lt. (column_is d i lt).2;
  rising = λ b c unknown less. place_less d b c unknown.1 less;
}

-- ---- where they end

module _ (d : Decoder) (is : IsDecoder d) (arrivals : List Arrival) (stands : StandsFor d arrivals)
  where
    abbrev IsWord : List ℕ → Type 0
    IsWord = IsNullWord d.matrix (positions arrivals)

    abbrev IsSet : List ℕ → Type 0
    IsSet = IsNullSet (residue d)

    pub word_unknown : (word : List ℕ) → IsWord word → (c : ℕ) → is_in word c ≡ true
        → IsUnknownColumn d c
    word_unknown word null c inside = (
      in_all (λ b. b < d.matrix.n) word null.below c inside,
      false_from_ne_true _ (λ known. true≢false (sym inside
          ∙ null_unknown d is arrivals stands word null c known)),
    )

    late_unknown : (c : ℕ) → IsLate IsWord c → IsUnknownColumn d c
    late_unknown c (word, null, ends) = subst (IsUnknownColumn d) ends
        (word_unknown word null (last_of word) (last_in word null.nonempty))

    late_place : (c : ℕ) → IsLate IsWord c → IsLate IsSet (place d c)
    late_place c (word, null, ends) = (
      places_of d word,
      to_null_set d is arrivals stands word null,
      last_map (place d) word null.nonempty ∙ ap (place d) ends,
    )

    late_below : (i : ℕ) → IsLate IsSet i → i < length (unknown_columns d)
    late_below i (set, null, ends) = subst (λ (j : ℕ). j < length (unknown_columns d)) ends
        (in_all (λ j. j < length (unknown_columns d)) set null.below (last_of set)
        (last_in set null.nonempty))

    late_column : (i : ℕ) → IsLate IsSet i → IsLate IsWord (column d i)
    late_column i (set, null, ends) = (
      columns_at d set,
      from_null_set d is arrivals stands set null,
      last_map (column d) set null.nonempty ∙ ap (column d) ends,
    )

    pub late_word_is : (c : ℕ) → IsLate IsWord c ↔ IsUnknownColumn d c × IsLate IsSet (place d c)
    late_word_is c = (
      λ late. (late_unknown c late, late_place c late),
      λ w. subst (IsLate IsWord) (column_place d c w.0.0 w.0.1) (late_column (place d c) w.1),
    )

    pub late_set_is : (i : ℕ) → IsLate IsSet i
        ↔ (i < length (unknown_columns d)) × IsLate IsWord (column d i)
    late_set_is i = (
      λ late. (late_below i late, late_column i late),
      λ w. subst (IsLate IsSet) (column_is d i w.0).2 (late_place (column d i) w.1),
    )

-- null words and null sets pair
pub null_pairs : NullWordsPairWithNullSets
null_pairs d arrivals is stands = record {
  set = to_null_set d is arrivals stands;
  word = from_null_set d is arrivals stands;
  same_word = λ word null. undone (column d) (place d) word
      (All-from_get_or (λ c. column d (place d c) ≡ c) word 0 (λ i lt.
      let unknown = word_unknown d is arrivals stands word null _ (in_at word i 0 lt) in
      column_place d _ unknown.0 unknown.1));
  same_set = λ set null. undone (place d) (column d) set
      (All-from_get_or (λ i. place d (column d i) ≡ i) set 0 (λ k lt.
      (column_is d _ (null.below k 0 lt)).2));
  late_word = late_word_is d is arrivals stands;
  late_set = late_set_is d is arrivals stands;
}
