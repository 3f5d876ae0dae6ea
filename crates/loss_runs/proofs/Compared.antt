-- The least number of kept symbols that determine the block, beside how the run ends.
use Rattle.std.proofs.Common.{◌≡◌, ℕ, ◌≤◌, ◌==◌, ◌||◌, Bool, true, false, List, [], ◌∷◌, length}
use Rattle.std.proofs.Common.{take, refl, sym, ap, ◌∙◌, subst, arith, true≢false}
use Rattle.std.proofs.lemmas.List.{take-map}
use Rattle.sparse_rows.specs.Matrix.{HasShape, Matrix, is_in}
use Rattle.sparse_rows.specs.Codeword.{Arrival, IsCodeword, positions, symbol_at}
use Rattle.sparse_rows.specs.Closure.{closure}
use Rattle.sparse_rows.specs.Determined.{HoldsSource}
use Rattle.sparse_rows.specs.Laws.{NullWordHoldsSource}
use Rattle.sparse_rows.specs.NullWord.{IsNullWord}
use Rattle.null_witness.specs.Laws.{ClosureHasSameNullWords, NullWordOfSubset}
use Rattle.null_witness.specs.Laws.{UndeterminedByNullWord}
use Rattle.fec_threshold.specs.LeastPrefix.{HasNullWord}
use Rattle.fec_threshold.specs.Laws.{ShorterPrefixHasNullWord}
use Rattle.loss_runs.specs.Trials.{arrivals_of, kept_by, source_of}
use Rattle.loss_runs.specs.Ends.{IsEnd, IsNeeded, IsThreshold}
use Rattle.loss_runs.specs.Laws.{LeastWithinNeeded, NeverIsUndetermined, OtherColumnsStay}
use Rattle.loss_runs.specs.declared.result.RunEnd.{RunEnd}
use Rattle.loss_runs.specs.declared.result.RunEnd.TheVariants.{Peeled, Solved, Undetermined}
use Rattle.loss_runs.specs.declared.result.RunLeast.{RunLeast}
use Rattle.loss_runs.specs.declared.result.RunLeast.TheVariants.{Never, Prefix, Unasked}
use Rattle.loss_runs.proofs.Arriving.{length_arrivals}
use Rattle.loss_runs.proofs.Endings.{arrivals_fit, end_one, not_both}
use Rattle.loss_runs.proofs.Thresholds.{prefix_lacks, whole_prefix}

-- what arrived has no null word where its closure holds the source
closed_by_source : ClosureHasSameNullWords → NullWordHoldsSource
    → (m : Matrix) (arrivals : List Arrival) (word : List ℕ) → HasShape m → HoldsSource m arrivals
    → ¬ IsNullWord m (positions arrivals) word
closed_by_source same source m arrivals word shape holds null =
    let inside : IsNullWord m (closure m (positions arrivals)) word =
    (same m (positions arrivals) word).0 null in
    let (k, column, lt, is, below) = source m (closure m (positions arrivals)) word shape inside in
    true≢false (sym (holds column below) ∙ subst (λ (c : ℕ). closure m (positions arrivals) c
    ≡ false) is (inside.outside k column lt))

-- the kept positions are those that arrive
arrived_at : (len : ℕ) (word : List (List ℕ)) (kept : List ℕ) (c : ℕ)
    → positions (arrivals_of len word kept) c ≡ is_in kept c
arrived_at len word [] c = refl
arrived_at len word (p ∷ kept) c = ap (λ b. (p == c) || b) (arrived_at len word kept c)

module _ (fewer : NullWordOfSubset) (m : Matrix) (len : ℕ) (word : List (List ℕ)) where
  -- so they have the same null words
  null_arrived : (kept null : List ℕ) → IsNullWord m (is_in kept) null
      → IsNullWord m (positions (arrivals_of len word kept)) null
  null_arrived kept null is = fewer m (positions (arrivals_of len word kept)) (is_in kept) null
      (λ c e. sym (arrived_at len word kept c) ∙ e) is

  null_kept : (kept null : List ℕ) → IsNullWord m (positions (arrivals_of len word kept)) null
      → IsNullWord m (is_in kept) null
  null_kept kept null is = fewer m (is_in kept) (positions (arrivals_of len word kept)) null
      (λ c e. arrived_at len word kept c ∙ e) is

  module _ (same : ClosureHasSameNullWords) (source : NullWordHoldsSource)
      (shorter : ShorterPrefixHasNullWord) (shape : HasShape m) (kept : List ℕ) where
    -- as many as peeling needed have no null word
    needed_lacks : (p : ℕ) → IsNeeded m (arrivals_of len word kept) p
        → ¬ HasNullWord m (is_in (take p kept))
    needed_lacks p needed null =
        let taken : take p (arrivals_of len word kept) ≡ arrivals_of len word (take p kept) =
        take-map (λ e. (e, symbol_at len word e)) p kept in
        closed_by_source same source m (arrivals_of len word (take p kept)) null.0 shape
        (subst (λ (arrivals : List Arrival). HoldsSource m arrivals) taken needed.holds)
        (null_arrived (take p kept) null.0 null.1)

    -- nor then have all
    peeled_lacks : (p : ℕ) → IsNeeded m (arrivals_of len word kept) p
        → ¬ HasNullWord m (is_in kept)
    peeled_lacks p needed null = needed_lacks p needed (
      null.0,
      shorter m kept p (length kept) null.0
          (omega (arith, needed.within, length_arrivals len word kept))
          (whole_prefix m kept null.0 null.1),
    )

    -- the least number of them is no greater than what peeling needed
    least_within : (p : ℕ) (l : RunLeast) → IsNeeded m (arrivals_of len word kept) p
        → IsThreshold m true kept l → (least : ℕ) × (l ≡ Prefix least) × (least ≤ p)
    least_within p Unasked needed is = absurd (true≢false is)
    least_within p Never needed is = absurd (peeled_lacks p needed is.1)
    least_within p (Prefix q) needed is = (q, refl, is.1.least p (needed_lacks p needed))

    module _ (law : UndeterminedByNullWord) (some : 1 ≤ len) (codeword : IsCodeword m len word)
      where
        -- where all of them have a null word the run ends as undetermined
        never_ends : (e : RunEnd) → IsEnd m len (take m.k word) (arrivals_of len word kept) e
            → HasNullWord m (is_in kept) → e ≡ Undetermined
        never_ends (Peeled p) ends null = absurd (peeled_lacks p ends null)
        never_ends Solved ends null = absurd (not_both m len (take m.k word)
            (arrivals_of len word kept) ends.1
            ((law m len (arrivals_of len word kept) word shape some
            (arrivals_fit m len word kept codeword)).1 (null.0, null_arrived kept null.0 null.1)))
        never_ends Undetermined ends null = refl

        -- and where it does all of them have one
        undetermined_has : IsEnd m len (take m.k word) (arrivals_of len word kept) Undetermined
            → HasNullWord m (is_in kept)
        undetermined_has ends =
            let null = (law m len (arrivals_of len word kept) word shape some
            (arrivals_fit m len word kept codeword)).0 ends.1 in (
              null.0,
              null_kept kept null.0 null.1,
            )

        has_never : (l : RunLeast) → IsThreshold m true kept l → HasNullWord m (is_in kept)
            → l ≡ Never
        has_never Unasked is null = absurd (true≢false is)
        has_never Never is null = refl
        has_never (Prefix q) is null = absurd (prefix_lacks m kept shorter q is.1 null)

-- ---- the laws

module _ (fewer : NullWordOfSubset) (same : ClosureHasSameNullWords) (source : NullWordHoldsSource)
    (shorter : ShorterPrefixHasNullWord) where
  pub least_within_needed : LeastWithinNeeded
  least_within_needed t word r needed result shape asked run peeled =
      least_within fewer t.matrix t.len word same source shorter shape (kept_by t r) needed
      result.least
      (subst (IsEnd t.matrix t.len (source_of t) (arrivals_of t.len word (kept_by t r))) peeled
      run.ends)
      (subst (λ (b : Bool). IsThreshold t.matrix b (kept_by t r) result.least) asked run.least)

  pub never_is_undetermined : UndeterminedByNullWord → NeverIsUndetermined
  never_is_undetermined law t word r result shape some encoded asked run =
      let kept : List ℕ = kept_by t r in
      let m = t.matrix in
      let ends : IsEnd m t.len (take m.k word) (arrivals_of t.len word kept) result.end =
      subst (λ (s : List (List ℕ)). IsEnd m t.len s (arrivals_of t.len word kept) result.end)
      (sym encoded.source_is) run.ends in
      let least : IsThreshold m true kept result.least =
      subst (λ (b : Bool). IsThreshold m b kept result.least) asked run.least in (
        λ never. never_ends fewer m t.len word same source shorter shape kept law some
            encoded.codeword result.end ends (subst (IsThreshold m true kept) never least).1,
        λ undetermined. has_never fewer m t.len word same source shorter shape kept law some
            encoded.codeword result.least least
            (undetermined_has fewer m t.len word same source shorter shape kept law some
            encoded.codeword
            (subst (IsEnd m t.len (take m.k word) (arrivals_of t.len word kept)) undetermined
            ends)),
      )

pub other_columns_stay : OtherColumnsStay
other_columns_stay t asked word r result other first second = (
  first.kept ∙ sym second.kept,
  end_one t.matrix t.len (source_of t) (arrivals_of t.len word (kept_by t r)) result.end other.end
      first.ends second.ends,
)
