use Rattle.std.proofs.Common.{List, [], ap, get_or, rules, subst₂, sym, take, ◌++◌, ◌∙◌, ◌∷◌, ◌≡◌}
use Rattle.std.proofs.lemmas.List.{take_more}
use Rattle.partial_block.specs.declared.outcome.Survey.{Survey}
use Rattle.peeling.specs.Decoder.{Decoder}
use Rattle.tool_reach.specs.Surveyed.{AreSurveys}
use Rattle.tool_reach.proofs.Surveys.{surveys_more}
use Rattle.tool_reach.proofs.surveying.survey_all.Goals as goal

pub loop-core-preserved : goal.loop-core-preserved
loop-core-preserved c =
    let xs = c.args.cores.now in
    let i = c.loop-core.core-index in
    let d = c.core-item.result in
    let at : get_or xs i d ≡ d = search rules in
    subst₂ AreSurveys (sym (take_more xs i d (search rules)
    ∙ ap (λ (x : Decoder). take i xs ++ x ∷ []) at)) (sym {A = List Survey} c.in_ok-push.ensures.items)
    (surveys_more (take i xs) c.loop-core.surveys.items d c.in_ok-survey.field-0
    c.loop-core.invariant c.in_ok-survey.ensures.survey c.in_ok-survey.ensures.holds)
