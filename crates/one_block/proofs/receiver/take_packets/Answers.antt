use Rattle.std.proofs.Common.{rules, List, ◌≡◌, ◌++◌, ◌∙◌, Err, arith, subst, sym, take}
use Rattle.std.proofs.lemmas.List.{take_all}
use Rattle.peeling.specs.Stands.{StandsFor}
use Rattle.one_block.specs.Block.{IsPacket, arrivals_of}
use Rattle.one_block.specs.declared.sender.Packet.{Packet}
use Rattle.one_block.proofs.Opened.{arrivals_more}
use Rattle.one_block.proofs.receiver.take_packets.Goals as goal

pub loop-packet-preserved : goal.loop-packet-preserved
loop-packet-preserved g c = record {
  block = c.take_packet.ensures.block;
  stands = λ arrivals stands.
      subst (StandsFor c.take_packet.new.session.core)
      (arrivals_more arrivals c.args.packets.now c.loop-packet.packet-index
      c.packet-item.result (omega (arith, c.loop-packet-test.true)) c.packet-item.is)
      (c.in_ok-take_packet.ensures.stands _
      (c.loop-packet.invariant.stands arrivals stands));
  later = omega (arith, c.loop-packet.invariant.later, c.take_packet.ensures.later);
}

pub returns-clause-stands : goal.returns-clause-stands
returns-clause-stands g c = λ arrivals stands.
    let all : take c.loop-packet.packet-index c.args.packets.now ≡ c.args.packets.now =
    take_all c.loop-packet.packet-index c.args.packets.now
    (omega (arith, c.loop-packet-test.false)) in
    subst (λ (packets : List Packet). StandsFor c.loop-packet.session.core
    (arrivals ++ arrivals_of packets)) all (c.loop-packet.invariant.stands arrivals stands)

pub returns-in_err-take_packet-clause-foreign : goal.returns-in_err-take_packet-clause-foreign
returns-in_err-take_packet-clause-foreign g c = λ told all.
    let fault = c.in_err-take_packet.field-0.0 in
    let same : c.from_residual.result ≡ Err fault = search rules in
    c.in_err-take_packet.ensures.foreign (sym same ∙ told)
    (subst IsPacket (sym c.packet-item.is)
    (all c.loop-packet.packet-index c.packet-item.result (omega (arith, c.loop-packet-test.true))))
