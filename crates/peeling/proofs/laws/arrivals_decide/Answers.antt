use Rattle.peeling.proofs.Decided.{same_known, same_symbols}
use Rattle.peeling.proofs.laws.arrivals_decide.Goals as goal

pub returns-clause-known : goal.returns-clause-known
returns-clause-known c = same_known

pub returns-clause-symbols : goal.returns-clause-symbols
returns-clause-symbols c = same_symbols
