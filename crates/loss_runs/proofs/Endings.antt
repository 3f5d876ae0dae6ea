-- How runs end: in one way, and in no other.
use Rattle.std.proofs.Common.{◌≡◌, ℕ, zero, suc, ◌<◌, ◌≤◌, ◌⊎◌, inl, inr, ⊎_elim, Bool, true, ◌&&◌}
use Rattle.std.proofs.Common.{List, length, take, refl, sym, ap, ap₂, ◌∙◌, subst, arith, bytes_eq}
use Rattle.std.specs.Cmp.Lexicographic.{pointwise}
use Rattle.std.proofs.lemmas.Bool.{cases_lt}
use Rattle.std.proofs.lemmas.Bool.Decides.{Decides-below_and}
use Rattle.std.proofs.lemmas.List.Elements.{All-map}
use Rattle.std.proofs.lemmas.Slice.Eq.{bytes_eq-Decides, slice_eq-Decides}
use Rattle.sparse_rows.specs.Matrix.{HasShape, Matrix}
use Rattle.sparse_rows.specs.Codeword.{Arrival, IsCodeword, positions, symbol_at}
use Rattle.sparse_rows.specs.Closure.{Set, closure}
use Rattle.sparse_rows.specs.NullWord.{IsNullWord}
use Rattle.sparse_rows.specs.Fitting.{IsFitting, IsUndetermined}
use Rattle.sparse_rows.specs.Determined.{HoldsSource, IsSource}
use Rattle.null_witness.specs.Laws.{UndeterminedByNullWord}
use Rattle.fec_threshold.specs.Laws.{LeastPrefixIsOne, ShorterPrefixHasNullWord}
use Rattle.loss_runs.specs.Trials.{arrivals_of, kept_by, source_of}
use Rattle.loss_runs.specs.Ends.{IsEnd, IsNeeded, NeverHolds}
use Rattle.loss_runs.specs.Laws.{RunHasOneResult, RunHasResult}
use Rattle.loss_runs.specs.declared.result.RunEnd.{RunEnd}
use Rattle.loss_runs.specs.declared.result.RunEnd.TheVariants.{Peeled, Solved, Undetermined}
use Rattle.loss_runs.specs.declared.result.RunLeast.{RunLeast}
use Rattle.loss_runs.specs.declared.result.RunResult.{RunResult}
use Rattle.loss_runs.proofs.NullWords.{null_or_none}
use Rattle.loss_runs.proofs.Searches.{IsLeast, holds_or_not, least}
use Rattle.loss_runs.proofs.Thresholds.{some_threshold, threshold_one}

-- ---- a closure holds the source, or it doesn't

abbrev all_below : Set → ℕ → Bool
all_below s zero = true
all_below s (suc n) = s n && all_below s n

source_or_not : (m : Matrix) (arrivals : List Arrival)
    → HoldsSource m arrivals ⊎ (¬ HoldsSource m arrivals)
source_or_not m arrivals =
    let s : Set = closure m (positions arrivals) in
    holds_or_not (HoldsSource m arrivals) (all_below s m.k)
    (Decides-below_and s (λ c. s c ≡ true) (all_below s) (λ c. (λ e. e, λ e. e)) refl (λ _. refl)
    m.k)

-- so there is a least number of arrivals that gives it, or none does
needed_or_never : (m : Matrix) (arrivals : List Arrival)
    → ((p : ℕ) × IsNeeded m arrivals p) ⊎ NeverHolds m arrivals
needed_or_never m arrivals = ⊎_elim
    (λ (f : (p : ℕ) × (p ≤ length arrivals) × IsLeast (λ q. HoldsSource m (take q arrivals)) p).
    inl (f.0, record { within = f.1; holds = f.2.0; least = f.2.1 }))
    inr
    (least (λ q. HoldsSource m (take q arrivals)) (λ q. source_or_not m (take q arrivals))
    (length arrivals))

-- ---- where a codeword fits

same_or_not : (a b : List (List ℕ)) → (a ≡ b) ⊎ (¬ (a ≡ b))
same_or_not a b = holds_or_not (a ≡ b) (pointwise bytes_eq a b)
    (slice_eq-Decides {E = bytes_eq} bytes_eq-Decides a b (pointwise bytes_eq a b) refl)

module _ (m : Matrix) (len : ℕ) (arrivals : List Arrival) (word : List (List ℕ))
    (shape : HasShape m) (some : 1 ≤ len) (fits : IsFitting m len arrivals word)
    (law : UndeterminedByNullWord) where
  Null : Type 0
  Null = (null : List ℕ) × IsNullWord m (positions arrivals) null

  -- without a null word all that fit have one source
  one_source : ((null : List ℕ) → ¬ IsNullWord m (positions arrivals) null)
      → IsSource m len arrivals (take m.k word)
  one_source none = record {
    word = word;
    fits = fits;
    only = λ other other_fits. ⊎_elim
        (λ (same : take m.k other ≡ take m.k word). same)
        (λ (differ : ¬ (take m.k other ≡ take m.k word)).
        let null = (law m len arrivals word shape some fits).0 (record {
          word = other;
          other = word;
          word_fits = other_fits;
          other_fits = fits;
          differ = differ;
        }) in
        absurd (none null.0 null.1))
        (same_or_not (take m.k other) (take m.k word));
  }

  -- all that fit have its source, or codewords of two sources fit
  source_or_open : IsSource m len arrivals (take m.k word) ⊎ IsUndetermined m len arrivals
  source_or_open = ⊎_elim
      (λ (null : (null : List ℕ) × IsNullWord m (positions arrivals) null).
      inr ((law m len arrivals word shape some fits).1 null))
      (λ (none : (null : List ℕ) → ¬ IsNullWord m (positions arrivals) null). inl (one_source none))
      (null_or_none m (positions arrivals))

  -- so a run ends in some way
  pub some_end : (e : RunEnd) × IsEnd m len (take m.k word) arrivals e
  some_end = ⊎_elim
      (λ (f : (p : ℕ) × IsNeeded m arrivals p). (Peeled f.0, f.1))
      (λ (never : NeverHolds m arrivals). ⊎_elim
      (λ (is : IsSource m len arrivals (take m.k word)). (Solved, (never, is)))
      (λ (two : IsUndetermined m len arrivals). (Undetermined, (never, two)))
      source_or_open)
      (needed_or_never m arrivals)

-- ---- no two ends

needed_one : (m : Matrix) (arrivals : List Arrival) (p q : ℕ) → IsNeeded m arrivals p
    → IsNeeded m arrivals q → p ≤ q
needed_one m arrivals p q first second = ⊎_elim
    (λ (lt : q < p). absurd (first.least q lt second.holds)) (λ (le : p ≤ q). le) (cases_lt q p)

needed_same : (m : Matrix) (arrivals : List Arrival) (p q : ℕ) → IsNeeded m arrivals p
    → IsNeeded m arrivals q → p ≡ q
needed_same m arrivals p q first second =
    let le : p ≤ q = needed_one m arrivals p q first second in
    let ge : q ≤ p = needed_one m arrivals q p second first in
    omega arith

pub not_both : (m : Matrix) (len : ℕ) (source : List (List ℕ)) (arrivals : List Arrival)
    → IsSource m len arrivals source → ¬ IsUndetermined m len arrivals
not_both m len source arrivals is two =
    two.differ (is.only two.word two.word_fits ∙ sym (is.only two.other two.other_fits))

module _ (m : Matrix) (len : ℕ) (source : List (List ℕ)) (arrivals : List Arrival) where
  pub end_one : (a b : RunEnd) → IsEnd m len source arrivals a → IsEnd m len source arrivals b
      → a ≡ b
  end_one (Peeled p) (Peeled q) first second =
      ap Peeled (needed_same m arrivals p q first second)
  end_one (Peeled p) Solved first second = absurd (second.0 p first.within first.holds)
  end_one (Peeled p) Undetermined first second = absurd (second.0 p first.within first.holds)
  end_one Solved (Peeled q) first second = absurd (first.0 q second.within second.holds)
  end_one Solved Solved first second = refl
  end_one Solved Undetermined first second =
      absurd (not_both m len source arrivals first.1 second.1)
  end_one Undetermined (Peeled q) first second = absurd (first.0 q second.within second.holds)
  end_one Undetermined Solved first second =
      absurd (not_both m len source arrivals second.1 first.1)
  end_one Undetermined Undetermined first second = refl

-- ---- the laws

-- what arrives of a codeword's positions is what the codeword has there
pub arrivals_fit : (m : Matrix) (len : ℕ) (word : List (List ℕ)) (kept : List ℕ)
    → IsCodeword m len word → IsFitting m len (arrivals_of len word kept) word
arrivals_fit m len word kept codeword = record {
  codeword = codeword;
  fits = All-map (λ (a : Arrival). symbol_at len word a.0 ≡ a.1)
      (λ e. (e, symbol_at len word e)) kept (λ k d lt. refl);
}

pub run_has_result : UndeterminedByNullWord → RunHasResult
run_has_result law t word r shape some encoded =
    let kept : List ℕ = kept_by t r in
    let arrivals : List Arrival = arrivals_of t.len word kept in
    let end = some_end t.matrix t.len arrivals word shape some
    (arrivals_fit t.matrix t.len word kept encoded.codeword) law in
    let threshold = some_threshold t.matrix kept t.threshold in (
      record { kept = length kept; end = end.0; least = threshold.0 },
      record {
        kept = refl;
        ends = subst (λ source. IsEnd t.matrix t.len source arrivals end.0) encoded.source_is end.1;
        least = threshold.1;
      },
    )

abbrev result_of : ℕ → RunEnd → RunLeast → RunResult
result_of kept end least = record { kept = kept; end = end; least = least }

pub run_has_one_result : ShorterPrefixHasNullWord → LeastPrefixIsOne → RunHasOneResult
run_has_one_result shorter one t word r result other first second =
    ap₂ (λ (k : ℕ) (e : RunEnd). result_of k e result.least) (first.kept ∙ sym second.kept)
    (end_one t.matrix t.len (source_of t) (arrivals_of t.len word (kept_by t r)) result.end
    other.end
    first.ends second.ends)
    ∙ ap (result_of other.kept other.end) (threshold_one t.matrix (kept_by t r) shorter one
    t.threshold result.least other.least first.least second.least)
