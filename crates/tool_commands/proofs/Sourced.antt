-- How the blocks of a file came out.
use Rattle.std.proofs.Common.{◌≡◌, ℕ, ◌<◌, ◌+◌, Bool, true, false, if◌then◌else◌, List, [], ◌∷◌}
use Rattle.std.proofs.Common.{length, get_or, slice_index, slice_index_or, take, refl, sym, ap, ◌∙◌}
use Rattle.std.proofs.Common.{arith}
use Rattle.std.specs.List.{list_any}
use Rattle.std.proofs.lemmas.List.{take_more, take_all}
use Rattle.std.proofs.lemmas.List.Folds.{list_any-append, list_any_at}
use Rattle.tool_base.specs.declared.status.Status.TheVariants as status
use Rattle.peeling.specs.Decoder.{Decoder}
use Rattle.fec_session.specs.Session.{ComeOut, HoldsOutcome}
use Rattle.fec_session.specs.declared.outcome.Outcome.{Outcome}
use Rattle.fec_session.specs.declared.outcome.Outcome.TheVariants as outcome
use Rattle.packet_file.specs.Header.{HeaderFields, source_counts}
use Rattle.object_file.specs.Codes.{count_at}
use Rattle.object_file.specs.Receiving.{HasSource, HaveSource, HoldsCount}
use Rattle.tool_commands.specs.Outcomes.{is_contradicted, is_undetermined, outcome_status}

-- where the status is `Done` no block is contradicted, and none is undetermined
none_failed : (outcomes : List Outcome) → outcome_status outcomes ≡ status.Done
    → (list_any is_contradicted outcomes ≡ false) × (list_any is_undetermined outcomes ≡ false)
none_failed outcomes done = by_case (list_any is_contradicted outcomes)
    (list_any is_undetermined outcomes) done
  where
    by_case : (contradicted undetermined : Bool)
        → (if contradicted then status.NoCodeword else if undetermined then status.Undetermined else
        status.Done) ≡ status.Done → (contradicted ≡ false) × (undetermined ≡ false)
    by_case true undetermined is = cc
    by_case false true is = cc
    by_case false false is = (refl, refl)

-- a test that no item passes fails at each
fails_at : {X : Type 0} (test : X → Bool) (xs : List X) (i : ℕ) (d : X) → i < length xs
    → list_any test xs ≡ false → test (get_or xs i d) ≡ false
fails_at test xs i d lt none = by_case (test (get_or xs i d)) refl
  where
    by_case : (b : Bool) → test (get_or xs i d) ≡ b → b ≡ false
    by_case true is = let some = list_any_at test xs i d lt is in cc
    by_case false is = refl

source_if : (k : ℕ) (o : Outcome) → is_contradicted o ≡ false → is_undetermined o ≡ false
    → HoldsCount k o → HasSource k o
source_if k outcome.NoCodeword first second holds = cc
source_if k (outcome.Block block) first second holds = holds
source_if k (outcome.Undetermined word) first second holds = cc

-- where the status is `Done` each block has its source
pub all_sources : (h : HeaderFields) (outcomes : List Outcome)
    → outcome_status outcomes ≡ status.Done
    → ((b : ℕ) (o : Outcome) → b < length outcomes → HoldsCount (slice_index (source_counts h) b)
    (slice_index_or outcomes b o)) → HaveSource h outcomes
all_sources h outcomes done holds b o lt =
    let none = none_failed outcomes done in
    source_if (count_at h b) (get_or outcomes b o) (fails_at is_contradicted outcomes b o lt none.0)
    (fails_at is_undetermined outcomes b o lt none.1) (holds b o lt)

-- an outcome of a decoder of k source symbols holds so many
counts_by : (d : Decoder) (k : ℕ) (o : Outcome) → d.matrix.k ≡ k → HoldsOutcome d o → HoldsCount k o
counts_by d k outcome.NoCodeword same holds = tt
counts_by d k (outcome.Block block) same holds = holds ∙ same
counts_by d k (outcome.Undetermined word) same holds = tt

-- so the outcomes of decoders do
pub all_counts : (h : HeaderFields) (decoders : List Decoder) (outcomes : List Outcome)
    → ((b : ℕ) (d : Decoder) → b < length decoders → (slice_index_or decoders b d).matrix.k
    ≡ slice_index (source_counts h) b)
    → ComeOut decoders outcomes → Decoder → (b : ℕ) (o : Outcome) → b < length outcomes
    → HoldsCount (slice_index (source_counts h) b) (slice_index_or outcomes b o)
all_counts h decoders outcomes sized out e b o lt =
    let within : b < length decoders = omega (arith, lt, out.counted) in
    counts_by (get_or decoders b e) (slice_index (source_counts h) b) (get_or outcomes b o)
    (sized b e within) (out.holds b e o within)

-- ---- whether some item passes a test

module _ {X : Type 0} (test : X → Bool) (xs : List X) (i : ℕ) (d : X) (lt : i < length xs) where
  -- one item more that fails it
  pub none_more : list_any test (take i xs) ≡ false → test (get_or xs i d) ≡ false
      → list_any test (take (i + 1) xs) ≡ false
  none_more before here = ap (list_any test) (take_more xs i d lt)
      ∙ list_any-append test (take i xs) (get_or xs i d ∷ []) ∙ rw (before, here) refl

  -- one that passes it
  pub some_here : test (get_or xs i d) ≡ true → true ≡ list_any test xs
  some_here here = sym (list_any_at test xs i d lt here)

-- none passes it
pub none_at_all : {X : Type 0} (test : X → Bool) (xs : List X) (i : ℕ) → i ≡ length xs
    → list_any test (take i xs) ≡ false → false ≡ list_any test xs
none_at_all test xs i all none = sym none ∙ ap (list_any test) (take_all i xs (omega (arith, all)))
