use Rattle.std.proofs.Common.{arith}
use Rattle.fec_base.specs.Outside.{stream}
use Rattle.packet_file.specs.Header.{HeaderFields}
use Rattle.packet_file.proofs.ReadPieces.{bad_stops, consumes_all, lead_most}
use Rattle.packet_file.proofs.packets.read_lead.Goals as goal

pub overflow_cast-result : goal.overflow_cast-result
overflow_cast-result g c =
    let h : HeaderFields = c.args.h.now in
    omega (
      arith,
      c.if-taken-len.true,
      c.requires.lead,
      lead_most h.version h.oti.symbol
          (omega (arith, c.symbol_len.ensures.most, c.symbol_len.ensures.value)),
    )

pub returns-in-Err-check_id-clause-stops : goal.returns-in-Err-check_id-clause-stops
returns-in-Err-check_id-clause-stops g c =
    let left = g.S.Source.left in
    let faults = g.S.Source.faults in
    let lead = c.read_full.new.buf in (
      lead,
      consumes_all (left c.args.src.now) (left c.read_full.new.src) c.in-Ok.taken lead
          (omega (arith, c.if-taken-len.false, c.read_full.auto.buf)) c.in-Ok.ensures.bytes,
      bad_stops c.args.h.now c.args.limit c.args.index
          (stream (left c.args.src.now) (faults c.args.src.now))
          (stream (left c.read_full.new.src) (faults c.read_full.new.src)) lead
          c.in-Err-check_id.fault c.in-Err-check_id.ensures.fault
          (λ broken. absurd (c.in-Err-check_id.ensures.whole broken)),
    )
