use Rattle.sparse_rows.proofs.Sets.{rounds_hold, rounds_within, rounds_grow}
use Rattle.peeling.proofs.Closure.{closure_rests, closure_none, closure_full}
use Rattle.peeling.proofs.laws.closure_is_least.Goals as goal

pub returns-clause-rests : goal.returns-clause-rests
returns-clause-rests c m s shape = closure_rests m shape s

pub returns-clause-holds : goal.returns-clause-holds
returns-clause-holds c m s = rounds_hold m m.n s

pub returns-clause-least : goal.returns-clause-least
returns-clause-least c m s t h fixed = rounds_within m m.n s t h fixed

pub returns-clause-grows : goal.returns-clause-grows
returns-clause-grows c m s t h = rounds_grow m m.n s t h

pub returns-clause-none : goal.returns-clause-none
returns-clause-none c m shape = closure_none m shape

pub returns-clause-source : goal.returns-clause-source
returns-clause-source c m s shape h = closure_full m shape s h
