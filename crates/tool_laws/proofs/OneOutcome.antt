-- Arrivals determine one outcome.
use Rattle.std.proofs.Common.{◌≡◌, ◌↔◌, ℕ, Bool, true, List, refl, sym, ap, ap₂, ◌∙◌}
use Rattle.sparse_rows.specs.Matrix.{Matrix}
use Rattle.sparse_rows.specs.Codeword.{Arrival, positions}
use Rattle.sparse_rows.specs.Fitting.{IsUndetermined}
use Rattle.sparse_rows.proofs.Sets.{same_test}
use Rattle.fec_session.specs.Block.{Block}
use Rattle.fec_session.specs.declared.outcome.Outcome.{Outcome}
use Rattle.fec_session.specs.declared.outcome.Outcome.TheVariants as outcome
use Rattle.sparse_rows.specs.Determined.{HoldsSource, IsSource}
use Rattle.fec_session.specs.Determines.{Determines}
use Rattle.tool_laws.proofs.OneFirstNullWord.{first_one}

abbrev block : List (List ℕ) → Bool → Block
block source by_peeling = record { source = source; by_peeling = by_peeling }

module _ (m : Matrix) (len : ℕ) (arrivals : List Arrival) where
  -- one source
  source_one : (source other : List (List ℕ)) → IsSource m len arrivals source
      → IsSource m len arrivals other → source ≡ other
  source_one source other first second = sym (first.only first.word first.fits)
      ∙ second.only first.word first.fits

  -- where it stands, the arrivals aren't open
  pub not_both : (source : List (List ℕ)) → IsSource m len arrivals source
      → IsUndetermined m len arrivals → ⊥
  not_both source is two = two.differ (is.only two.word two.word_fits
      ∙ sym (is.only two.other two.other_fits))

  peeled_one : (a b : Bool) → (a ≡ true) ↔ HoldsSource m arrivals
      → (b ≡ true) ↔ HoldsSource m arrivals → a ≡ b
  peeled_one a b first second = same_test a b (λ e. second.1 (first.0 e))
      (λ e. first.1 (second.0 e))

  pub outcome_one : (o p : Outcome) → Determines m len arrivals o → Determines m len arrivals p
      → o ≡ p
  outcome_one outcome.NoCodeword outcome.NoCodeword none nothing = refl
  outcome_one outcome.NoCodeword (outcome.Block other) none is = absurd (none is.0.word is.0.fits)
  outcome_one outcome.NoCodeword (outcome.Undetermined other) none is =
      absurd (none is.0.word is.0.word_fits)
  outcome_one (outcome.Block b) outcome.NoCodeword is none = absurd (none is.0.word is.0.fits)
  outcome_one (outcome.Block b) (outcome.Block c) first second =
      ap outcome.Block (ap₂ block (source_one b.source c.source first.0 second.0)
      (peeled_one b.by_peeling c.by_peeling first.1 second.1))
  outcome_one (outcome.Block b) (outcome.Undetermined other) first second =
      absurd (not_both b.source first.0 second.0)
  outcome_one (outcome.Undetermined word) outcome.NoCodeword is none =
      absurd (none is.0.word is.0.word_fits)
  outcome_one (outcome.Undetermined word) (outcome.Block c) first second =
      absurd (not_both c.source second.0 first.0)
  outcome_one (outcome.Undetermined word) (outcome.Undetermined other) first second =
      ap outcome.Undetermined (first_one m (positions arrivals) word other first.1 second.1)
