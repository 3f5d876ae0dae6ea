use Rattle.tool_reach.specs.Surveyed.{IsMemory, SurveysDue}
use Rattle.tool_reach.proofs.FileSaved.{knowing_more}
use Rattle.tool_reach.proofs.salvaging.finish.Goals as goal

pub returns-in-Ok : goal.returns-in-Ok
returns-in-Ok g c = knowing_more (SurveysDue c.args.taken.now.header c.in-Ok.made.surveys.items
    c.args.taken.now.packets) _ IsMemory _ _ _ _ _ c.write_made.result
    (λ s out text due. (c.in-Ok.made.surveys.items, c.in-Ok.ensures.surveys, due))
    (λ refusal is. is) c.write_made.ensures.ends
