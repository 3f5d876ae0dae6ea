use Rattle.std.proofs.Common.{List, subst}
use Rattle.peeling.specs.Decoder.{Decoder}
use Rattle.tool_reach.specs.Surveyed.{AreSurveys}
use Rattle.tool_reach.proofs.Surveys.{all_long}
use Rattle.tool_reach.proofs.salvaging.make.Goals as goal

pub returns-clause-long : goal.returns-clause-long
returns-clause-long c = all_long c.args.taken.now.cores c.in_ok-surveys.surveys.items
    c.args.taken.now.header.oti.symbol
    (subst (λ (ds : List Decoder). AreSurveys ds c.in_ok-surveys.surveys.items) c.cores.ensures
    c.in_ok-surveys.ensures) c.requires.long
