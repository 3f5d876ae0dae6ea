-- How many of the kept symbols determine the block: one number at least, or none, and no second.
use Rattle.std.proofs.Common.{◌≡◌, ℕ, ◌<◌, ◌≤◌, ◌⊎◌, inl, inr, ⊎_elim, Bool, true, false, List}
use Rattle.std.proofs.Common.{length, take, refl, sym, ap, ◌∙◌, subst, arith, true≢false}
use Rattle.std.proofs.lemmas.Bool.{cases_lt}
use Rattle.std.proofs.lemmas.List.{take_all}
use Rattle.sparse_rows.specs.Matrix.{Matrix, is_in}
use Rattle.sparse_rows.specs.NullWord.{IsNullWord}
use Rattle.fec_threshold.specs.LeastPrefix.{HasNullWord, IsLeastPrefix}
use Rattle.fec_threshold.specs.Laws.{LeastPrefixIsOne, ShorterPrefixHasNullWord}
use Rattle.loss_runs.specs.Ends.{IsThreshold}
use Rattle.loss_runs.specs.declared.result.RunLeast.{RunLeast}
use Rattle.loss_runs.specs.declared.result.RunLeast.TheVariants.{Never, Prefix, Unasked}
use Rattle.loss_runs.proofs.NullWords.{null_or_none}
use Rattle.loss_runs.proofs.Searches.{IsLeast, least}

-- a prefix of all positions is all of them
pub whole_prefix : (m : Matrix) (kept word : List ℕ) → IsNullWord m (is_in kept) word
    → IsNullWord m (is_in (take (length kept) kept)) word
whole_prefix m kept word null = subst (λ (xs : List ℕ). IsNullWord m (is_in xs) word)
    (sym (take_all (length kept) kept (omega arith))) null

prefix_whole : (m : Matrix) (kept word : List ℕ)
    → IsNullWord m (is_in (take (length kept) kept)) word → IsNullWord m (is_in kept) word
prefix_whole m kept word null = subst (λ (xs : List ℕ). IsNullWord m (is_in xs) word)
    (take_all (length kept) kept (omega arith)) null

module _ (m : Matrix) (kept : List ℕ) where
  -- the first so many have no null word
  abbrev Lacks : ℕ → Type 0
  Lacks q = ¬ HasNullWord m (is_in (take q kept))

  lacks_or_not : (q : ℕ) → Lacks q ⊎ (¬ Lacks q)
  lacks_or_not q = ⊎_elim
      (λ (null : HasNullWord m (is_in (take q kept))). inr (λ lacks. lacks null))
      (λ (none : (null : List ℕ) → ¬ IsNullWord m (is_in (take q kept)) null).
      inl (λ null. none null.0 null.1))
      (null_or_none m (is_in (take q kept)))

  -- where all of them have none there is a least such number
  some_prefix : (¬ HasNullWord m (is_in kept)) → (p : ℕ) × IsLeastPrefix m kept p
  some_prefix none = ⊎_elim
      (λ (f : (p : ℕ) × (p ≤ length kept) × IsLeast Lacks p). (
        f.0,
        record {
          within = f.1;
          none = f.2.0;
          least = λ q lacks. ⊎_elim (λ (lt : q < f.0). absurd (f.2.1 q lt lacks))
              (λ (le : f.0 ≤ q). le) (cases_lt q f.0);
        },
      ))
      (λ (never : (q : ℕ) → q ≤ length kept → ¬ Lacks q). absurd (never (length kept) (omega arith)
      (λ null. none (null.0, prefix_whole m kept null.0 null.1))))
      (least Lacks lacks_or_not (length kept))

  -- there is an answer
  pub some_threshold : (asked : Bool) → (l : RunLeast) × IsThreshold m asked kept l
  some_threshold false = (Unasked, refl)
  some_threshold true = ⊎_elim
      (λ (null : HasNullWord m (is_in kept)). (Never, (refl, null)))
      (λ (none : (null : List ℕ) → ¬ IsNullWord m (is_in kept) null).
      let p = some_prefix (λ null. none null.0 null.1) in (Prefix p.0, (refl, p.1)))
      (null_or_none m (is_in kept))

  -- where some prefix has no null word, all of them have none
  pub prefix_lacks : ShorterPrefixHasNullWord → (p : ℕ) → IsLeastPrefix m kept p
      → ¬ HasNullWord m (is_in kept)
  prefix_lacks shorter p is null = is.none (
    null.0,
    shorter m kept p (length kept) null.0 is.within
        (whole_prefix m kept null.0 null.1),
  )

  -- and no second answer
  pub threshold_one : ShorterPrefixHasNullWord → LeastPrefixIsOne → (asked : Bool)
      → (a b : RunLeast) → IsThreshold m asked kept a → IsThreshold m asked kept b → a ≡ b
  threshold_one shorter one asked Unasked Unasked first second = refl
  threshold_one shorter one asked Unasked Never first second =
      absurd (true≢false (sym second.0 ∙ first))
  threshold_one shorter one asked Unasked (Prefix q) first second =
      absurd (true≢false (sym second.0 ∙ first))
  threshold_one shorter one asked Never Unasked first second =
      absurd (true≢false (sym first.0 ∙ second))
  threshold_one shorter one asked Never Never first second = refl
  threshold_one shorter one asked Never (Prefix q) first second =
      absurd (prefix_lacks shorter q second.1 first.1)
  threshold_one shorter one asked (Prefix p) Unasked first second =
      absurd (true≢false (sym first.0 ∙ second))
  threshold_one shorter one asked (Prefix p) Never first second =
      absurd (prefix_lacks shorter p first.1 second.1)
  threshold_one shorter one asked (Prefix p) (Prefix q) first second =
      ap Prefix (one m kept p q first.1 second.1)
