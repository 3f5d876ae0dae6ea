-- What a decoder knows of a codeword's symbols that arrive one after the other.
use Rattle.std.proofs.Common.{◌≡◌, ℕ, zero, suc, ◌+◌, ◌<◌, List, [], ◌∷◌, ◌++◌, length, get_or}
use Rattle.std.proofs.Common.{take, sym, ap, ◌∙◌, subst, arith}
use Rattle.std.proofs.lemmas.List.{get_or_default, length-map, take_more}
use Rattle.fec_base.specs.Symbol.{zero_symbol}
use Rattle.sparse_rows.specs.Matrix.{Matrix}
use Rattle.sparse_rows.specs.Codeword.{Arrival, IsCodeword, symbol_at}
use Rattle.sparse_rows.specs.Determined.{HoldsSource}
use Rattle.peeling.specs.Decoder.{Decoder}
use Rattle.peeling.specs.Lookups.{HasAllSource}
use Rattle.peeling.specs.Stands.{Receives, StandsFor}
use Rattle.sparse_rows.specs.Fitting.{IsFitting}
use Rattle.fec_session.specs.Determines.{Determines}
use Rattle.fec_session.specs.Verdict.{Decides, outcome_of}
use Rattle.fec_session.specs.declared.verdict.Verdict.{Verdict}
use Rattle.fec_session.specs.declared.verdict.Verdict.TheVariants as verdict
use Rattle.loss_runs.specs.Trials.{arrivals_of}
use Rattle.loss_runs.specs.Ends.{IsEnd, NeverHolds}
use Rattle.loss_runs.specs.Kept.{EndsBy, HasFitting}
use Rattle.loss_runs.specs.declared.result.RunEnd.{RunEnd}

pub length_arrivals : (len : ℕ) (word : List (List ℕ)) (kept : List ℕ)
    → length (arrivals_of len word kept) ≡ length kept
length_arrivals len word kept = length-map kept (λ e. (e, symbol_at len word e))

arrival_at : (len : ℕ) (word : List (List ℕ)) (kept : List ℕ) (i : ℕ) (d : Arrival) (p : ℕ)
    → i < length kept → get_or kept i 0 ≡ p
    → get_or (arrivals_of len word kept) i d ≡ (p, symbol_at len word p)
arrival_at len word [] i d p lt is = absurd (omega (arith, lt))
arrival_at len word (e ∷ kept) zero d p lt is = ap (λ (q : ℕ). (q, symbol_at len word q)) is
arrival_at len word (e ∷ kept) (suc i) d p lt is = arrival_at len word kept i d p (omega arith) is

module _ (m : Matrix) (len : ℕ) (word : List (List ℕ)) (codeword : IsCodeword m len word) where
  -- a symbol of the codeword, whatever stands for those past its end
  symbol_is : (p : ℕ) → p < m.n → get_or word p [] ≡ symbol_at len word p
  symbol_is p lt = get_or_default word p [] (zero_symbol len) (omega (arith, lt, codeword.count))

  pub symbol_long : (p : ℕ) → p < m.n → length (get_or word p []) ≡ len
  symbol_long p lt = (codeword.symbols p [] (omega (arith, lt, codeword.count))).long

  -- one arrival more
  pub arrivals_more : (kept : List ℕ) (i p : ℕ) (bytes : List ℕ) → i < length kept
      → get_or kept i 0 ≡ p → p < m.n → bytes ≡ get_or word p []
      → take (i + 1) (arrivals_of len word kept)
      ≡ take i (arrivals_of len word kept) ++ (p, bytes) ∷ []
  arrivals_more kept i p bytes lt is below bytes_are =
      take_more (arrivals_of len word kept) i (0, [])
      (omega (arith, lt, length_arrivals len word kept))
      ∙ ap (λ (a : Arrival). take i (arrivals_of len word kept) ++ a ∷ [])
      (arrival_at len word kept i (0, []) p lt is
      ∙ ap (λ (b : List ℕ). (p, b)) (sym (bytes_are ∙ symbol_is p below)))

  -- a decoder that received it stands for it
  pub stands_more : (old new : Decoder) (kept : List ℕ) (i p : ℕ) (bytes : List ℕ)
      → StandsFor old (take i (arrivals_of len word kept)) → Receives old new p bytes
      → i < length kept → get_or kept i 0 ≡ p → p < m.n → bytes ≡ get_or word p []
      → StandsFor new (take (i + 1) (arrivals_of len word kept))
  stands_more old new kept i p bytes stands received lt is below bytes_are =
      subst (StandsFor new) (sym (arrivals_more kept i p bytes lt is below bytes_are))
      (received.stands (take i (arrivals_of len word kept)) stands)

module _ (d : Decoder) (m : Matrix) (arrivals : List Arrival) (stands : StandsFor d arrivals)
    (same : d.matrix ≡ m) where
  -- it knows the source exactly where the closure of what arrived holds it
  pub holds_from_known : HasAllSource d → HoldsSource m arrivals
  holds_from_known has = subst (λ (n : Matrix). HoldsSource n arrivals) same
      (λ position lt. sym (stands.known position) ∙ has position lt)

  pub known_from_holds : HoldsSource m arrivals → HasAllSource d
  known_from_holds holds position lt = stands.known position
      ∙ (subst (λ (n : Matrix). HoldsSource n arrivals) (sym same) holds) position lt

-- ---- what its verdict says

-- the verdict of a decoder that stands for these arrivals
module _ (d : Decoder) (v : Verdict) (m : Matrix) (len : ℕ) (arrivals : List Arrival)
    (word : List (List ℕ)) (same : d.matrix ≡ m) (long : d.len ≡ len)
    (stands : StandsFor d arrivals) (decides : Decides d v) (fits : IsFitting m len arrivals word)
  where
    determined : Determines m len arrivals (outcome_of v)
    determined = subst (λ (l : ℕ). Determines m l arrivals (outcome_of v)) long
        (subst (λ (n : Matrix). Determines n d.len arrivals (outcome_of v)) same
        (decides arrivals stands))

    -- some codeword fits
    pub some_fits : HasFitting v
    some_fits = by_case v determined where
      by_case : (w : Verdict) → Determines m len arrivals (outcome_of w) → HasFitting w
      by_case (verdict.NoCodeword core) none = none word fits
      by_case (verdict.Block block) is = tt
      by_case (verdict.Undetermined core null) two = tt

    -- and so the run ends
    pub ends_by : (end : RunEnd) → NeverHolds m arrivals → EndsBy v end
        → IsEnd m len (take m.k word) arrivals end
    ends_by end never ends = by_case v end determined ends where
      by_case : (w : Verdict) (e : RunEnd) → Determines m len arrivals (outcome_of w) → EndsBy w e
          → IsEnd m len (take m.k word) arrivals e
      by_case (verdict.NoCodeword core) e none ended = absurd ended
      by_case (verdict.Block block) e is ended =
          subst (IsEnd m len (take m.k word) arrivals) (sym ended) (
            never,
            record {
              word = word;
              fits = fits;
              only = λ other f. is.0.only other f ∙ sym (is.0.only word fits);
            },
          )
      by_case (verdict.Undetermined core null) e two ended =
          subst (IsEnd m len (take m.k word) arrivals) (sym ended) (never, two.0)
