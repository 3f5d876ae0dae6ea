-- What is written of a symbol that is determined.
use Rattle.std.proofs.Common.{List, [], arith, false, refl, subst, sym, true, true≢false, ℕ, ◌<◌}
use Rattle.std.proofs.Common.{slice_index_or, ◌∙◌, ◌∷◌, ◌≡◌}
use Rattle.object_file.specs.Codes.{count_at}
use Rattle.object_file.specs.Received.{arrivals_of}
use Rattle.partial_block.specs.Saved.{through_at}
use Rattle.partial_block.specs.Surveys.{Holds, IsSurvey}
use Rattle.partial_block.specs.declared.outcome.Survey.{Survey}
use Rattle.partial_block.specs.declared.outcome.Survey.TheVariants as survey
use Rattle.tool_reach.specs.Laws.{SalvagedIsCertain}
use Rattle.tool_reach.specs.Salvaged.{is_no_word}
use Rattle.tool_reach.proofs.Words.{symbol_saved}

none_of : (word : List ℕ) → is_no_word word ≡ true → word ≡ []
none_of [] is = refl
none_of (p ∷ word) is = absurd (true≢false (sym is))

pub salvaged_is_certain : SalvagedIsCertain
salvaged_is_certain draws most input input_now surveys object report s b e saved lt here below
    determined word fits =
    let len : ℕ = s.header.oti.symbol in
    let is : IsSurvey (s.code b) len (arrivals_of b s.packets) (survey.Sources saved) =
    subst (IsSurvey (s.code b) len (arrivals_of b s.packets)) here
    (s.surveyed b survey.NoCodeword lt) in
    let held : Holds (count_at s.header b) len (survey.Sources saved) =
    subst (Holds (count_at s.header b) len) here (s.held b survey.NoCodeword lt) in
    let within : e < (s.code b).k = omega (arith, below, s.sized b lt, held.throughs) in
    let none : through_at saved e ≡ [] = none_of (through_at saved e) determined in
    symbol_saved len saved e none ∙ sym (is.1.symbol e within none word fits)
