use Rattle.std.proofs.Common.{ap, rules, subst, ◌≢◌}
use Rattle.std.specs.Io.KnownBytes.{Appends}
use Rattle.fec_base.specs.Bytes.{AppendsFront}
use Rattle.fec_base.proofs.Cuts.{on_err}
use Rattle.tool_base.specs.declared.status.Status.TheVariants as status
use Rattle.tool_reach.proofs.Statuses.{written_is}
use Rattle.tool_reach.proofs.salvaging.write_if_fitting.Goals as goal

pub returns-in_err-write_object-clause-cut : goal.returns-in_err-write_object-clause-cut
returns-in_err-write_object-clause-cut g c =
    let apart : c.args.status ≢ status.NoCodeword = search rules in
    on_err _ _ (subst (AppendsFront (g.K.Sink.held c.args.sink.now)
    (g.K.Sink.held c.write_object.new.sink)) (written_is c.args.status c.args.zeros.now
    c.args.header.now.oti.symbol c.args.surveys.now c.args.header.now.oti.length
    c.oti.result.now.length apart c.requires.zeros (ap (λ o. o.length) c.oti.ensures.value))
    c.in_err-write_object.ensures.cut)

pub returns-clause-written : goal.returns-clause-written
returns-clause-written g c =
    let apart : c.args.status ≢ status.NoCodeword = search rules in
    subst (Appends (g.K.Sink.held c.args.sink.now)
    (g.K.Sink.held c.write_object.new.sink)) (written_is c.args.status c.args.zeros.now
    c.args.header.now.oti.symbol c.args.surveys.now c.args.header.now.oti.length
    c.oti.result.now.length apart c.requires.zeros (ap (λ o. o.length) c.oti.ensures.value))
    c.in_ok-write_object.ensures.written
