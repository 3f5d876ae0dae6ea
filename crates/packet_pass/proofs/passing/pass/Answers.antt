use Rattle.std.proofs.Common.{rules, ◌≡◌, ◌++◌, List, length, Result, Err, IfErr, refl, sym, ◌∙◌}
use Rattle.std.proofs.Common.{subst}
use Rattle.std.specs.Io.KnownBytes.{Appends}
use Rattle.fec_base.specs.Outside.{stream}
use Rattle.packet_file.specs.Packets.{Packet}
use Rattle.packet_file.specs.OneReading.Stop.{End}
use Rattle.packet_pass.specs.Pass.{head_of, texts}
use Rattle.packet_pass.specs.Written.{WritesEarly}
use Rattle.packet_pass.specs.Writing.{EndsEarly, PassesPackets}
use Rattle.packet_pass.specs.declared.kind.Pass.{Pass}
use Rattle.packet_pass.specs.declared.kind.Passed.{Passed}
use Rattle.packet_pass.specs.declared.kind.PassRefusal.{PassRefusal}
use Rattle.packet_pass.specs.declared.kind.PassRefusal.TheVariants.{Memory, Output}
use Rattle.fec_base.specs.Bytes.{AppendsFront}
use Rattle.packet_pass.proofs.Headed.{ends_early, ends_in_head, ends_unwritten, kept_by}
use Rattle.packet_pass.proofs.Headed.{read_behind, written_behind}
use Rattle.packet_pass.proofs.passing.pass.Goals as goal

pub returns-in_err-writer-clause-ends : goal.returns-in_err-writer-clause-ends
returns-in_err-writer-clause-ends g c =
    let left = g.S.Source.left in
    let faults = g.S.Source.faults in
    let held = g.K.Sink.held in
    let sink = g.K.Sink.faults in
    let input = stream (left c.args.input.now) (faults c.args.input.now) in
    let mid = stream (left c.read_header.new.src) (faults c.read_header.new.src) in
    let output = stream (held c.args.output.now) (sink c.args.output.now) in
    let same : c.from_residual-in_err-writer.result ≡ Err Memory = search rules in
    subst (λ (r : Result Passed PassRefusal). IfErr r
    (WritesEarly c.args.pass c.args.most input mid output output)) (sym same)
    (ends_unwritten c.args.pass c.args.most c.in_ok-header.header input mid output
    c.in_ok-header.ensures.header c.in_ok-header.ensures.bytes c.read_header.ensures.later)

pub returns-in_err-piece-clause-ends : goal.returns-in_err-piece-clause-ends
returns-in_err-piece-clause-ends g c =
    let left = g.S.Source.left in
    let faults = g.S.Source.faults in
    let held = g.K.Sink.held in
    let sink = g.K.Sink.faults in
    let input = stream (left c.args.input.now) (faults c.args.input.now) in
    let mid = stream (left c.read_header.new.src) (faults c.read_header.new.src) in
    let output = stream (held c.args.output.now) (sink c.args.output.now) in
    let same : c.from_residual-in_err-piece.result ≡ Err Memory = search rules in
    subst (λ (r : Result Passed PassRefusal). IfErr r
    (WritesEarly c.args.pass c.args.most input mid output output)) (sym same)
    (ends_unwritten c.args.pass c.args.most c.in_ok-header.header input mid output
    c.in_ok-header.ensures.header c.in_ok-header.ensures.bytes c.read_header.ensures.later)

pub returns-in_err-put_head-clause-ends : goal.returns-in_err-put_head-clause-ends
returns-in_err-put_head-clause-ends g c =
    let left = g.S.Source.left in
    let faults = g.S.Source.faults in
    let held = g.K.Sink.held in
    let sink = g.K.Sink.faults in
    let pass = c.args.pass in
    let most = c.args.most in
    let h = c.in_ok-header.header in
    let input = stream (left c.args.input.now) (faults c.args.input.now) in
    let mid = stream (left c.read_header.new.src) (faults c.read_header.new.src) in
    let output = stream (held c.args.output.now) (sink c.args.output.now) in
    let out_now = stream (held c.put_head.new.output) (sink c.put_head.new.output) in
    let same : c.from_residual-in_err-put_head.result ≡ Err Output = search rules in
    let front = subst (λ (p : Pass). AppendsFront output.bytes out_now.bytes (head_of p h))
    c.in_ok-writer.ensures.pass c.in_err-put_head.ensures.cut in
    subst (λ (r : Result Passed PassRefusal). IfErr r
    (WritesEarly pass most input mid output out_now)) (sym same)
    (ends_in_head pass most h input mid output out_now c.in_ok-header.ensures.header
    c.in_ok-header.ensures.bytes c.read_header.ensures.later front
    c.in_err-put_head.ensures.cause.failed)

pub returns-in_err-packets-clause-ends : goal.returns-in_err-packets-clause-ends
returns-in_err-packets-clause-ends g c =
    let left = g.S.Source.left in
    let faults = g.S.Source.faults in
    let held = g.K.Sink.held in
    let sink = g.K.Sink.faults in
    let pass = c.args.pass in
    let most = c.args.most in
    let h = c.in_ok-header.header in
    let input = stream (left c.args.input.now) (faults c.args.input.now) in
    let mid = stream (left c.read_header.new.src) (faults c.read_header.new.src) in
    let now = stream (left c.pass_packets.new.input) (faults c.pass_packets.new.input) in
    let output = stream (held c.args.output.now) (sink c.args.output.now) in
    let out_mid = stream (held c.put_head.new.output) (sink c.put_head.new.output) in
    let out_now = stream (held c.pass_packets.new.output) (sink c.pass_packets.new.output) in
    let refusal = c.in_err-packets.field-0.0 in
    let same : c.from_residual-in_err-packets.result ≡ Err refusal = search rules in
    let at_head = c.in_ok-writer.ensures.pass in
    let written = subst (λ (p : Pass). Appends output.bytes out_mid.bytes (head_of p h)) at_head
    c.in_ok-put_head.ensures.written in
    let early = subst (λ (p : Pass). EndsEarly p most h mid now out_mid out_now refusal)
    (c.put_head.ensures.pass ∙ at_head) c.in_err-packets.ensures.ends in
    let ends = ends_early pass most h input mid now output out_mid out_now
    c.in_ok-header.ensures.header c.in_ok-header.ensures.bytes written
    c.read_header.ensures.later c.put_head.ensures.cause.later refusal early in
    subst (λ (r : Result Passed PassRefusal). IfErr r
    (WritesEarly pass most input now output out_now)) (sym same) ends

pub returns-clause-whole : goal.returns-clause-whole
returns-clause-whole g c =
    let left = g.S.Source.left in
    let faults = g.S.Source.faults in
    let held = g.K.Sink.held in
    let sink = g.K.Sink.faults in
    let pass = c.args.pass in
    let most = c.args.most in
    let h = c.in_ok-header.header in
    let input = stream (left c.args.input.now) (faults c.args.input.now) in
    let mid = stream (left c.read_header.new.src) (faults c.read_header.new.src) in
    let now = stream (left c.pass_packets.new.input) (faults c.pass_packets.new.input) in
    let output = stream (held c.args.output.now) (sink c.args.output.now) in
    let out_mid = stream (held c.put_head.new.output) (sink c.put_head.new.output) in
    let out_now = stream (held c.pass_packets.new.output) (sink c.pass_packets.new.output) in
    let count = c.in_ok-packets.packets in
    let at_head = c.in_ok-writer.ensures.pass in
    let behind = c.put_head.ensures.pass ∙ at_head in
    let written = subst (λ (p : Pass). Appends output.bytes out_mid.bytes (head_of p h)) at_head
    c.in_ok-put_head.ensures.written in
    let (packets, s, counted) = subst (λ (p : Pass). (packets : List Packet)
    × PassesPackets p most h mid now out_mid out_now packets End × (length packets ≡ count)) behind
    c.in_ok-packets.ensures.whole in
    let w = c.pass_packets.new.writer in
    let has = c.in_ok-packets.ensures.written in
    let header = c.in_ok-header.ensures.header in
    let taken = c.in_ok-header.ensures.bytes in
    let later = c.read_header.ensures.later in
    let sink_later = c.put_head.ensures.cause.later in (
      head_of pass h ++ texts pass h packets,
      written_behind pass most h input mid now output out_mid out_now header taken written later
          sink_later packets End s,
      record {
        header = h;
        packets = packets;
        reads = read_behind pass most h input mid now output out_mid out_now header taken written
            later sink_later packets End s;
        fit = s.fit;
        text = refl;
        counted = sym counted;
        kept = kept_by pass w.pass w.thinning.kind w.thinning.seed w.thinning.done count
            c.kept.result c.kept.ensures has.kind has.seed has.done
            (c.pass_packets.ensures.pass ∙ behind);
      },
    )
