use Rattle.std.proofs.Common.{rules}
use Rattle.park_miller.specs.Generator.{next, drawn}
use Rattle.park_miller.proofs.generator.ParkMiller.draw.Goals as goal

pub returns-clause-value : goal.returns-clause-value
unfolding drawn
returns-clause-value c = search rules

pub returns-clause-state : goal.returns-clause-state
unfolding next
returns-clause-state c = search rules
