use Rattle.std.proofs.Common.{take}
use Rattle.tool_reach.specs.Surveyed.{AreSurveys}
use Rattle.tool_reach.proofs.surveying.survey_all.Given as goal

abbrev pub invariant-loop-core : goal.invariant-loop-core
invariant-loop-core l = AreSurveys (take l.core-index l.cores) l.surveys.items
