use Rattle.std.proofs.Common.{List, length, ℕ, subst}
use Rattle.fec_base.specs.Bytes.{AppendsFront}
use Rattle.fec_base.proofs.Cuts.{on_err}
use Rattle.object_file.specs.Staged.{PassesOn}
use Rattle.tool_reach.specs.Salvaged.{salvaged_object}
use Rattle.object_file.proofs.Passing.{cut_whole}
use Rattle.tool_reach.proofs.saved_object.write_object.Goals as goal

pub returns-in_err-flush-clause-cut : goal.returns-in_err-flush-clause-cut
returns-in_err-flush-clause-cut g c =
    let held = g.K.Sink.held in
    let object : List ℕ = salvaged_object (length c.args.zeros.now) c.args.surveys.now
    c.args.size in
    let passed = subst (λ (before : List ℕ). PassesOn (held c.args.sink.now)
    (held c.put_object.new.sink) before c.put_object.new.staging.bytes object) c.requires.empty
    c.in_ok-put_object.ensures.passed in
    on_err c.from_residual-in_err-flush.result (AppendsFront (held c.args.sink.now)
    (held c.flush.new.sink) object)
    (cut_whole (held c.args.sink.now) (held c.put_object.new.sink) (held c.flush.new.sink)
    c.put_object.new.staging.bytes object passed c.in_err-flush.ensures.cut)
