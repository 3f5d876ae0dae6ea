-- The first reduced set that contradicts what is kept.
use Rattle.std.proofs.Common.{◌≡◌, ◌≢◌, ℕ, ◌<◌, ◌≤◌, ⊎_elim, List, [], length, get_or, map, sym, ap}
use Rattle.std.proofs.Common.{◌∙◌, subst, arith, le_refl, eq-or-lt_of_le}
use Rattle.std.proofs.lemmas.Bool.{cases_lt}
use Rattle.std.proofs.lemmas.List.{get_or-map, get_or_default, length-map}
use Rattle.std.proofs.lemmas.List.Kept.{AllPairs-from_increasing}
use Rattle.fec_base.specs.Symbol.{zero_symbol}
use Rattle.fec_base.proofs.SymbolBytes.{byte_zero, length_zero, same_bytes}
use Rattle.sparse_rows.specs.Matrix.{Matrix, HasShape}
use Rattle.sparse_rows.specs.NullWord.{last_of}
use Rattle.null_witness.specs.ReducedWords.{IsFirstReducedWord, IsReducedWord}
use Rattle.clash_proof.specs.Evidence.{Kept}
use Rattle.clash_proof.specs.Limits.{IsEvidenceKept}
use Rattle.clash_proof.specs.Proofs.{ContradictedBy, IsClosedBy}
use Rattle.clash_proof.specs.RowSums.{set_byte}
use Rattle.clash_proof.specs.Transposed.{AreReducedWords, NoneOf}
use Rattle.clash_proof.proofs.Summed.{all_zero, not_contradicted, rows_set}

module _ (m : Matrix) (ev : Kept) (sets : List (List ℕ))
    (words : AreReducedWords (IsClosedBy m ev) sets) where
  abbrev at : ℕ → List ℕ
  at i = get_or sets i []

  last_most : (i j : ℕ) → i ≤ j → j < length sets → last_of (at i) ≤ last_of (at j)
  last_most i j le lt = ⊎_elim
      (λ (e : i ≡ j). rw e (le_refl (last_of (at j))))
      (λ (lt2 : i < j).
      let rises = AllPairs-from_increasing (map last_of sets) words.rising i j 0 lt2
      (rw length-map lt) in
      let a : get_or (map last_of sets) i 0 ≡ last_of (at i) =
      get_or-map last_of sets i [] 0 (omega (arith, lt2, lt)) in
      let b : get_or (map last_of sets) j 0 ≡ last_of (at j) =
      get_or-map last_of sets j [] 0 lt in
      omega (arith, rises, a, b))
      (eq-or-lt_of_le le)

  index_of : (set : List ℕ) → IsReducedWord (IsClosedBy m ev) set
      → (i : ℕ) × (i < length sets) × (at i ≡ set)
  index_of set red = let w = words.every set red in
      (w.0, w.1, get_or_default sets w.0 [] set w.1 ∙ w.2)

  pub first_is : (i : ℕ) → i < length sets → ContradictedBy m ev (at i)
      → ((j : ℕ) → j < i → ¬ ContradictedBy m ev (at j))
      → IsFirstReducedWord (IsClosedBy m ev) (ContradictedBy m ev) (at i)
  first_is i lt contra none = record {
    reduced = words.reduced i [] lt;
    of_kind = contra;
    least = λ other red kind. let j = index_of other red in
        let le : i ≤ j.0 = ⊎_elim (λ before. absurd (none j.0 before
        (subst (ContradictedBy m ev) (sym j.2) kind))) (λ le2. le2) (cases_lt j.0 i) in
        subst (λ w. last_of (at i) ≤ last_of w) j.2 (last_most i j.0 le j.1);
  }

  pub none_is : ((j : ℕ) → j < length sets → ¬ ContradictedBy m ev (at j))
      → NoneOf (IsClosedBy m ev) (ContradictedBy m ev)
  none_is none word red kind = let j = index_of word red in
      none j.0 j.1 (subst (ContradictedBy m ev) (sym j.2) kind)

  -- what the sum of set i tells
  module _ (shape : HasShape m) (kept : IsEvidenceKept ev) (i : ℕ) (lt : i < length sets)
      (sum : List ℕ) (bytes : (t : ℕ) → get_or sum t 0 ≡ set_byte m ev t (at i)) where
    pub not_zero : sum ≢ zero_symbol (length sum) → ContradictedBy m ev (at i)
    not_zero ne zero = let one = (words.reduced i [] lt).one in
        ne (same_bytes sum (zero_symbol (length sum)) (sym (length_zero (length sum)))
        (λ t. bytes t ∙ sym (rows_set m ev (at i) one.rising one.below t)
        ∙ all_zero m shape ev kept (at i) one.rising one.below zero t
        ∙ sym (byte_zero (length sum) t)))

    pub is_zero : sum ≡ zero_symbol (length sum) → ContradictedBy m ev (at i) → ⊥
    is_zero same contra = let one = (words.reduced i [] lt).one in
        not_contradicted m shape ev kept (at i) one.rising one.below
        (λ t below. rows_set m ev (at i) one.rising one.below t ∙ sym (bytes t)
        ∙ ap (λ s. get_or s t 0) same ∙ byte_zero (length sum) t) contra
