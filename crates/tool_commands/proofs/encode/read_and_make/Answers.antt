use Rattle.std.proofs.Common.{sym, subst}
use Rattle.std.proofs.lemmas.Result.{err_from_is_err_and}
use Rattle.tool_commands.specs.EncodeRun.{RefusesEncode}
use Rattle.fec_base.specs.Outside.{Stream, stream}
use Rattle.tool_commands.proofs.NoObject.{refuses_input}
use Rattle.tool_commands.proofs.encode.read_and_make.Goals as goal

pub returns-in_err-object-clause-refusal : goal.returns-in_err-object-clause-refusal
returns-in_err-object-clause-refusal g c =
    let input : Stream = stream (g.S.Source.left c.args.input.now)
    (g.S.Source.faults c.args.input.now) in
    let now : Stream = stream (g.S.Source.left c.read_object.new.input)
    (g.S.Source.faults c.read_object.new.input) in
    let p = err_from_is_err_and c.from_residual.result c.from_residual.ensures.1 in
    let refuses = refuses_input c.args.options.now input now c.in_err-object.field-0.0
    c.in_err-object.ensures.refusal in
    rw p.1 (subst (RefusesEncode c.args.options.now input now) (sym p.2) refuses)
