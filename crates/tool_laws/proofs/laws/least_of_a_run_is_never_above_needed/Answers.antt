use Rattle.tool_laws.proofs.LeastPackets.{never_above, none_open}
use Rattle.tool_laws.proofs.laws.least_of_a_run_is_never_above_needed.Goals as goal

pub returns-clause-within : goal.returns-clause-within
returns-clause-within c = never_above c.least_is_never_above_needed.ensures.within

pub returns-clause-none : goal.returns-clause-none
returns-clause-none c = none_open c.least_is_never_above_needed.ensures.never
