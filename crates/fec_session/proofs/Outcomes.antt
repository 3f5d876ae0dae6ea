-- How a block comes out is one, and depends on what arrived alone.
use mathlib.Core.Path.{fun_ext}
use Rattle.std.proofs.Common.{◌≡◌, ◌↔◌, ℕ, ◌<◌, ◌==◌, Bool, true, List, [], get_or, refl, sym, ap}
use Rattle.std.proofs.Common.{ap₂, ◌∙◌, subst, inl, inr}
use Rattle.std.specs.List.{Contains}
use Rattle.std.proofs.lemmas.List.Elements.{All-from_get_or, Contains-get_or}
use Rattle.sparse_rows.specs.Matrix.{Matrix}
use Rattle.sparse_rows.specs.Codeword.{Arrival, Fits, positions, symbol_at}
use Rattle.sparse_rows.specs.Closure.{IsWithin, Set, closure}
use Rattle.sparse_rows.specs.NullWord.{IsFirstNullWord}
use Rattle.sparse_rows.specs.Fitting.{IsFitting, IsUndetermined}
use Rattle.sparse_rows.specs.Determined.{IsSource}
use Rattle.sparse_rows.proofs.Sets.{any_at, any_from, same_test}
use Rattle.null_witness.specs.Laws.{FirstNullWordIsOne}
use Rattle.peeling.specs.Laws.{ClosureGrows, HasSameArrivals}
use Rattle.fec_session.specs.Block.{Block}
use Rattle.fec_session.specs.Determines.{Determines}
use Rattle.fec_session.specs.Laws.{AreAmongArrivals, ArrivalsDecideOutcome, ContradictionStays}
use Rattle.fec_session.specs.Laws.{OutcomeIsOne, SourceStays}
use Rattle.fec_session.specs.declared.outcome.Outcome.TheVariants as outcome

-- ---- one outcome

-- a source that all codewords have, and two that differ
one_and_two : (m : Matrix) (len : ℕ) (arrivals : List Arrival) (source : List (List ℕ))
    → IsSource m len arrivals source → IsUndetermined m len arrivals → ⊥
one_and_two m len arrivals source one two =
    two.differ (one.only two.word two.word_fits ∙ sym (one.only two.other two.other_fits))

one_block : (m : Matrix) (len : ℕ) (arrivals : List Arrival) (b other : Block)
    → Determines m len arrivals (outcome.Block b) → Determines m len arrivals (outcome.Block other)
    → b ≡ other
one_block m len arrivals b other one two =
    ap₂ (λ s (p : Bool). record { source = s; by_peeling = p })
    (sym (one.0.only one.0.word one.0.fits) ∙ two.0.only one.0.word one.0.fits)
    (same_test b.by_peeling other.by_peeling (λ e. two.1.1 (one.1.0 e)) (λ e. one.1.1 (two.1.0 e)))

pub one_outcome : FirstNullWordIsOne → OutcomeIsOne
one_outcome first m len arrivals outcome.NoCodeword outcome.NoCodeword shape one two = refl
one_outcome first m len arrivals outcome.NoCodeword (outcome.Block b) shape none some =
    absurd (none some.0.word some.0.fits)
one_outcome first m len arrivals outcome.NoCodeword (outcome.Undetermined w) shape none some =
    absurd (none some.0.word some.0.word_fits)
one_outcome first m len arrivals (outcome.Block b) outcome.NoCodeword shape some none =
    absurd (none some.0.word some.0.fits)
one_outcome first m len arrivals (outcome.Block b) (outcome.Block c) shape one two =
    ap (λ (x : Block). outcome.Block x) (one_block m len arrivals b c one two)
one_outcome first m len arrivals (outcome.Block b) (outcome.Undetermined w) shape one two =
    absurd (one_and_two m len arrivals b.source one.0 two.0)
one_outcome first m len arrivals (outcome.Undetermined w) outcome.NoCodeword shape some none =
    absurd (none some.0.word some.0.word_fits)
one_outcome first m len arrivals (outcome.Undetermined w) (outcome.Block b) shape two one =
    absurd (one_and_two m len arrivals b.source one.0 two.0)
one_outcome first m len arrivals (outcome.Undetermined v) (outcome.Undetermined w) shape one two =
    ap (λ (x : List ℕ). outcome.Undetermined x) (first m (positions arrivals) v w shape one.1 two.1)

-- ---- further arrivals

module _ (arrivals others : List Arrival) (among : AreAmongArrivals arrivals others) where
  -- what has all of the others has all of these
  fits_fewer : (x : ℕ → List ℕ) → Fits others x → Fits arrivals x
  fits_fewer x fits = All-from_get_or (λ (a : Arrival). x a.0 ≡ a.1) arrivals (0, []) (λ i lt.
      let there : Contains others (get_or arrivals i (0, [])) =
      among (get_or arrivals i (0, [])) (Contains-get_or arrivals i (0, []) lt) in
      subst (λ (a : Arrival). x a.0 ≡ a.1) there.2 (fits there.0 _ there.1))

  -- a position of these is a position of the others
  positions_within : IsWithin (positions arrivals) (positions others)
  positions_within c e =
      let at = any_at (λ (a : Arrival). a.0 == c) (0, []) arrivals e in
      let there : Contains others (get_or arrivals at.0 (0, [])) =
      among (get_or arrivals at.0 (0, [])) (Contains-get_or arrivals at.0 (0, []) at.1) in
      any_from (λ (a : Arrival). a.0 == c) _ others there.0 there.1
      (ap (λ (a : Arrival). a.0 == c) there.2 ∙ at.2)

  -- a codeword that fits the others fits these
  fitting_fewer : (m : Matrix) (len : ℕ) (word : List (List ℕ)) → IsFitting m len others word
      → IsFitting m len arrivals word
  fitting_fewer m len word h =
      record { codeword = h.codeword; fits = fits_fewer (symbol_at len word) h.fits }

pub contradiction_stays : ContradictionStays
contradiction_stays m len arrivals others outcome.NoCodeword among none later = refl
contradiction_stays m len arrivals others (outcome.Block b) among none later =
    absurd (none later.0.word (fitting_fewer arrivals others among m len later.0.word later.0.fits))
contradiction_stays m len arrivals others (outcome.Undetermined w) among none later =
    absurd (none later.0.word
    (fitting_fewer arrivals others among m len later.0.word later.0.word_fits))

pub source_stays : ClosureGrows → SourceStays
source_stays grows m len arrivals others block outcome.NoCodeword among one later = inl refl
source_stays grows m len arrivals others block (outcome.Block kept) among one later =
    let back = fitting_fewer arrivals others among m len later.0.word later.0.fits in inr (
      kept,
      refl,
      sym (later.0.only later.0.word later.0.fits) ∙ one.0.only later.0.word back,
      λ peeled. later.1.1 (λ c lt. grows m (positions arrivals) (positions others)
          (positions_within arrivals others among) c (one.1.0 peeled c lt)),
    )
source_stays grows m len arrivals others block (outcome.Undetermined w) among one later =
    let back = fitting_fewer arrivals others among m len in
    absurd (one_and_two m len arrivals block.source one.0 (record {
      word = later.0.word;
      other = later.0.other;
      word_fits = back later.0.word later.0.word_fits;
      other_fits = back later.0.other later.0.other_fits;
      differ = later.0.differ;
    }))

-- ---- the same arrivals

module _ (m : Matrix) (len : ℕ) (arrivals others : List Arrival)
    (same : HasSameArrivals arrivals others) where
  among : AreAmongArrivals arrivals others
  among a = (same a).0

  turned : AreAmongArrivals others arrivals
  turned a = (same a).1

  positions_same : positions arrivals ≡ positions others
  positions_same = fun_ext (λ c. same_test _ _ (positions_within arrivals others among c)
      (positions_within others arrivals turned c))

  there : (word : List (List ℕ)) → IsFitting m len arrivals word → IsFitting m len others word
  there = fitting_fewer others arrivals turned m len

  back : (word : List (List ℕ)) → IsFitting m len others word → IsFitting m len arrivals word
  back = fitting_fewer arrivals others among m len

  source_others : (source : List (List ℕ)) → IsSource m len arrivals source
      → IsSource m len others source
  source_others source one = record {
    word = one.word;
    fits = there one.word one.fits;
    only = λ other h. one.only other (back other h);
  }

  two_others : IsUndetermined m len arrivals → IsUndetermined m len others
  two_others two = record {
    word = two.word;
    other = two.other;
    word_fits = there two.word two.word_fits;
    other_fits = there two.other two.other_fits;
    differ = two.differ;
  }

pub outcome_others : ArrivalsDecideOutcome
outcome_others m len arrivals others outcome.NoCodeword same none =
    λ word h. none word (back m len arrivals others same word h)
outcome_others m len arrivals others (outcome.Block b) same one = (
  source_others m len arrivals others same b.source one.0,
  subst (λ (s : Set). (b.by_peeling ≡ true) ↔ ((c : ℕ) → c < m.k → closure m s c ≡ true))
      (positions_same m len arrivals others same) one.1,
)
outcome_others m len arrivals others (outcome.Undetermined w) same two = (
  two_others m len arrivals others same two.0,
  subst (λ (s : Set). IsFirstNullWord m s w) (positions_same m len arrivals others same) two.1,
)
