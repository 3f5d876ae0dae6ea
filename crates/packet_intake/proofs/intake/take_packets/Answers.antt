use Rattle.std.proofs.Common.{rules, ◌≡◌, ℕ, [], ◌∷◌, ◌++◌, Ok, Err, Result, IfErr, sym, ap, subst}
use Rattle.std.proofs.Common.{arith, length-append}
use Rattle.fec_base.specs.Outside.{stream}
use Rattle.packet_file.proofs.Readings.{reads_more}
use Rattle.packet_intake.specs.Intake.{RefusesPackets}
use Rattle.packet_intake.specs.declared.refusal.IntakeRefusal.{IntakeRefusal}
use Rattle.packet_intake.proofs.Chains.{one_refuses, wanted_more}
use Rattle.packet_intake.proofs.intake.take_packets.Goals as goal

pub returns-in_err-take_packet-clause-refusal : goal.returns-in_err-take_packet-clause-refusal
returns-in_err-take_packet-clause-refusal g c =
    let left = g.S.Source.left in
    let faults = g.S.Source.faults in
    let done = g.T.PacketTaker.done in
    let takes = g.T.PacketTaker.takes in
    let fails = g.T.PacketTaker.fails in
    let h = c.args.header.now in
    let input = stream (left c.args.input.now) (faults c.args.input.now) in
    let mid = stream (left c.loop-index.input) (faults c.loop-index.input) in
    let now = stream (left c.take_packet.new.input) (faults c.take_packet.new.input) in
    let (packets, read, each, counted) = c.loop-index.invariant.stands in
    let refusal = c.in_err-take_packet.field-0.0 in
    let same : c.from_residual.result ≡ Err refusal = search rules in
    let refuses = one_refuses done takes fails h c.args.most input mid now c.args.taker.now
    c.loop-index.taker c.take_packet.new.taker packets c.loop-index.index read each counted
    (c.is_done.ensures.wanting c.if-is_done.false) c.loop-index.invariant.later refusal
    c.in_err-take_packet.ensures.refusal in
    subst (λ (x : Result ℕ IntakeRefusal). IfErr x (RefusesPackets done takes fails h c.args.most
    input now c.args.taker.now c.take_packet.new.taker)) (sym same) refuses

pub loop-index-preserved : goal.loop-index-preserved
loop-index-preserved g c =
    let left = g.S.Source.left in
    let faults = g.S.Source.faults in
    let input = stream (left c.args.input.now) (faults c.args.input.now) in
    let mid = stream (left c.loop-index.input) (faults c.loop-index.input) in
    let now = stream (left c.take_packet.new.input) (faults c.take_packet.new.input) in
    let (packets, read, each, counted) = c.loop-index.invariant.stands in
    let (p, one, step) = c.in_ok-take_packet.ensures.packet (ap Ok c.if-not-branch.false) in
    let wanting = c.is_done.ensures.wanting c.if-is_done.false in
    record {
      long = search rules;
      fits = c.take_packet.ensures.fits;
      stands = (
        packets ++ p ∷ [],
        reads_more c.args.header.now c.args.most input mid now packets c.loop-index.index p read
            counted one,
        wanted_more g.T.PacketTaker.done g.T.PacketTaker.takes c.args.taker.now c.loop-index.taker
            c.take_packet.new.taker packets c.loop-index.index p each counted wanting step,
        omega (arith, length-append packets (p ∷ []), counted),
      );
      few = omega (arith, one.within);
      later = search rules;
    }
