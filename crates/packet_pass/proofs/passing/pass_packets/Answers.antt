use Rattle.std.proofs.Common.{rules, ◌≡◌, ℕ, ◌∷◌, ◌++◌, [], Result, Ok, Err, IfErr, ap, sym, ◌∙◌}
use Rattle.std.proofs.Common.{refl, subst, arith, length-append}
use Rattle.fec_base.specs.Outside.{stream}
use Rattle.packet_pass.specs.Writing.{EndsAtPacket, EndsEarly, PassesOne}
use Rattle.packet_pass.specs.declared.kind.Pass.{Pass}
use Rattle.packet_pass.specs.declared.kind.PassRefusal.{PassRefusal}
use Rattle.packet_pass.proofs.Ending.{ends_behind, passes_more, passes_none}
use Rattle.packet_pass.proofs.passing.pass_packets.Goals as goal

pub returns-in_err-pass_packet-clause-ends : goal.returns-in_err-pass_packet-clause-ends
returns-in_err-pass_packet-clause-ends g c =
    let left = g.S.Source.left in
    let faults = g.S.Source.faults in
    let held = g.K.Sink.held in
    let sink = g.K.Sink.faults in
    let pass = c.args.writer.now.pass in
    let h = c.args.header.now in
    let input = stream (left c.args.input.now) (faults c.args.input.now) in
    let mid = stream (left c.loop-index.input) (faults c.loop-index.input) in
    let now = stream (left c.pass_packet.new.input) (faults c.pass_packet.new.input) in
    let output = stream (held c.args.output.now) (sink c.args.output.now) in
    let out_mid = stream (held c.loop-index.output) (sink c.loop-index.output) in
    let out_now = stream (held c.pass_packet.new.output) (sink c.pass_packet.new.output) in
    let index = c.loop-index.index in
    let so_far = c.loop-index.invariant in
    let (packets, s, counted) = so_far.came in
    let refusal = c.in_err-pass_packet.field-0.0 in
    let same : c.from_residual.result ≡ Err refusal = search rules in
    let here = subst (λ (p : Pass). EndsAtPacket p c.args.most h index mid now out_mid out_now
    refusal) so_far.pass c.in_err-pass_packet.ensures.ends in
    let ends = ends_behind pass c.args.most h input mid now output out_mid out_now packets index s
    counted so_far.later so_far.sink_later refusal here in
    subst (λ (r : Result ℕ PassRefusal). IfErr r (EndsEarly pass c.args.most h input now output
    out_now)) (sym same) ends

pub loop-index-preserved : goal.loop-index-preserved
loop-index-preserved g c =
    let left = g.S.Source.left in
    let faults = g.S.Source.faults in
    let held = g.K.Sink.held in
    let sink = g.K.Sink.faults in
    let pass = c.args.writer.now.pass in
    let h = c.args.header.now in
    let input = stream (left c.args.input.now) (faults c.args.input.now) in
    let mid = stream (left c.loop-index.input) (faults c.loop-index.input) in
    let now = stream (left c.pass_packet.new.input) (faults c.pass_packet.new.input) in
    let output = stream (held c.args.output.now) (sink c.args.output.now) in
    let out_mid = stream (held c.loop-index.output) (sink c.loop-index.output) in
    let out_now = stream (held c.pass_packet.new.output) (sink c.pass_packet.new.output) in
    let index = c.loop-index.index in
    let so_far = c.loop-index.invariant in
    let (packets, s, counted) = so_far.came in
    let there = ap Ok c.if-not-branch.false in
    let (p, passed) = c.in_ok-pass_packet.ensures.packet there in
    let one = subst (λ (x : Pass). PassesOne x c.args.most h index mid now out_mid out_now p)
    so_far.pass passed in
    record {
      long = search rules;
      pass = c.pass_packet.ensures.pass ∙ so_far.pass;
      ready = c.in_ok-pass_packet.ensures.ready there;
      came = (
        packets ++ p ∷ [],
        passes_more pass c.args.most h input mid now output out_mid out_now packets index s counted
            p one,
        omega (arith, length-append packets (p ∷ []), counted),
      );
      few = omega (arith, one.taken.within);
      later = omega (arith, so_far.later, c.pass_packet.ensures.later);
      sink_later = omega (arith, so_far.sink_later, c.pass_packet.ensures.sink_later);
    }

pub loop-index-init : goal.loop-index-init
loop-index-init g c = record {
  long = c.requires.piece;
  pass = refl;
  ready = c.requires.ready;
  came = ([], passes_none c.args.writer.now.pass c.args.most c.args.header.now _ _, refl);
  few = omega arith;
  later = omega arith;
  sink_later = omega arith;
}
