use Rattle.std.proofs.Common.{◌++◌, ◌∷◌, [], List, sym, subst}
use Rattle.fec_session.specs.Session.{ComeOut}
use Rattle.fec_session.specs.declared.outcome.Outcome.{Outcome}
use Rattle.fec_session.proofs.Settled.{come_more}
use Rattle.fec_session.proofs.outcome.finish_cores.Goals as goal

pub loop-core-preserved : goal.loop-core-preserved
loop-core-preserved c =
    let before = c.loop-core.yielded in
    let core = c.in-Some.core in
    let more = come_more before c.loop-core.outcomes.items core c.in_ok-finish_core.field-0
    c.loop-core.invariant c.in_ok-finish_core.ensures.outcome
    c.in_ok-finish_core.ensures.holds in
    subst (ComeOut (before ++ core ∷ [])) (sym {A = List Outcome} c.in_ok-push.ensures.items) more
