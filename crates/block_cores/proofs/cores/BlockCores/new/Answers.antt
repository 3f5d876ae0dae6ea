use Rattle.std.proofs.Common.{◌++◌, ◌∷◌, [], List, sym, subst}
use Rattle.peeling.specs.Decoder.{Decoder}
use Rattle.fec_session.specs.Session.{AreNew}
use Rattle.fec_session.proofs.Settled.{new_more}
use Rattle.block_cores.proofs.cores.BlockCores.new.Goals as goal

pub loop-code-preserved : goal.loop-code-preserved
loop-code-preserved c =
    let before = c.loop-code.yielded in
    let code = c.in-Some.code in
    let more = new_more before c.args.len c.loop-code.cores.items code c.in-Ok.core
    c.loop-code.invariant c.in-Ok.ensures.empty c.in-Ok.ensures.stands in
    subst (AreNew (before ++ code ∷ []) c.args.len)
    (sym {A = List Decoder} c.in_ok-push-in-Ok.ensures.items) more
