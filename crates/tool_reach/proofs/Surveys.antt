-- The surveys of decoders, one after the other.
use Rattle.std.proofs.Common.{All, List, [], arith, eq-or-lt_of_le, get_or, length, length-append}
use Rattle.std.proofs.Common.{refl, slice_index_or, subst, subst₂, sym, ℕ, ⊎_elim, ◌++◌, ◌<◌, ◌∷◌}
use Rattle.std.proofs.Common.{◌≡◌, ◌∙◌}
use Rattle.std.proofs.lemmas.List.{get_or_append_left, get_or_push}
use Rattle.partial_block.specs.Surveys.{Holds}
use Rattle.partial_block.specs.DecoderSurveys.{Surveys}
use Rattle.partial_block.specs.declared.outcome.Survey.{Survey}
use Rattle.partial_block.specs.declared.outcome.Survey.TheVariants as survey
use Rattle.peeling.specs.Decoder.{Decoder}
use Rattle.object_file.proofs.Cores.{blank}
use Rattle.tool_reach.specs.Surveyed.{AreSurveys, HasLength}

-- what holds of the items at each place holds with one item more in both
items_more : {A B : Type 0} (R : A → B → Type 0) (xs : List A) (ys : List B) (x : A) (y : B)
    → length ys ≡ length xs
    → ((b : ℕ) (d : A) (e : B) → b < length xs → R (get_or xs b d) (get_or ys b e)) → R x y
    → (b : ℕ) (d : A) (e : B) → b < length (xs ++ x ∷ [])
    → R (get_or (xs ++ x ∷ []) b d) (get_or (ys ++ y ∷ []) b e)
items_more R xs ys x y same each one b d e lt =
    ⊎_elim own before (eq-or-lt_of_le (omega (arith, lt, length-append xs (x ∷ [])))) where
      before : b < length xs → R (get_or (xs ++ x ∷ []) b d) (get_or (ys ++ y ∷ []) b e)
      before inside = subst₂ R (sym (get_or_append_left xs (x ∷ []) d b inside))
          (sym (get_or_append_left ys (y ∷ []) e b (omega (arith, same, inside))))
          (each b d e inside)

      own : b ≡ length xs → R (get_or (xs ++ x ∷ []) b d) (get_or (ys ++ y ∷ []) b e)
      own at = subst₂ R (sym (get_or_push xs x d b (sym at)))
          (sym (get_or_push ys y e b (omega (arith, same, at)))) one

-- no block was surveyed yet, and one more
pub surveys_none : AreSurveys [] []
surveys_none = record {
  counted = refl;
  surveyed = λ b d s lt. absurd (omega (arith, lt));
  holds = λ b d s lt. absurd (omega (arith, lt));
}

pub surveys_more : (decoders : List Decoder) (surveys : List Survey) (d : Decoder) (s : Survey)
    → AreSurveys decoders surveys → Surveys d s → Holds d.matrix.k d.len s
    → AreSurveys (decoders ++ d ∷ []) (surveys ++ s ∷ [])
surveys_more decoders surveys d s are one held = record {
  counted = omega (
    arith,
    are.counted,
    length-append decoders (d ∷ []),
    length-append surveys (s ∷ []),
  );
  surveyed = items_more Surveys decoders surveys d s are.counted are.surveyed one;
  holds = items_more (λ (x : Decoder) (y : Survey). Holds x.matrix.k x.len y) decoders surveys d s
      are.counted are.holds held;
}

-- what is held has the length of the decoder's symbols
length_of : (k len own : ℕ) (s : Survey) → own ≡ len → Holds k own s → HasLength len s
length_of k len own survey.NoCodeword same held = tt
length_of k len own (survey.Sources saved) same held =
    subst (λ (n : ℕ). HasLength n (survey.Sources saved)) same (record {
      symbols = held.symbols ∙ sym held.throughs;
      throughs = refl;
      long = λ e lt none. held.long e (omega (arith, lt, held.throughs)) none;
    })

-- and so all surveys have
pub all_long : (decoders : List Decoder) (surveys : List Survey) (len : ℕ)
    → AreSurveys decoders surveys
    → ((b : ℕ) (d : Decoder) → b < length decoders → (slice_index_or decoders b d).len ≡ len)
    → All (HasLength len) surveys
all_long decoders surveys len are long b s lt =
    let within : b < length decoders = omega (arith, lt, are.counted) in
    length_of (slice_index_or decoders b blank).matrix.k len (slice_index_or decoders b blank).len
    (slice_index_or surveys b s) (long b blank within) (are.holds b blank s within)
