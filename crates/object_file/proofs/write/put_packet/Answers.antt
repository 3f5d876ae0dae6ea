use Rattle.std.proofs.Common.{◌++◌, subst, take, arith, length-take-le}
use Rattle.fec_base.specs.Bytes.{AppendsFront}
use Rattle.packet_file.specs.Packets.{packet_bytes, packet_head, payload}
use Rattle.fec_base.proofs.Cuts.{cut_longer, on_err}
use Rattle.object_file.specs.Staged.{PassesOn}
use Rattle.object_file.proofs.Passing.{passes_after, cut_after}
use Rattle.object_file.proofs.write.put_packet.Goals as goal

pub put-requires-2 : goal.put-requires-2
put-requires-2 g c =
    let len = c.payload_len-len.result in
    omega (
      arith,
      c.requires.room,
      c.put.ensures.room,
      length-take-le len c.args.symbol.now
          (omega (arith, c.payload_len-len.ensures.most, c.requires.packet.long)),
      c.payload_len-len.ensures.most,
      c.symbol_len.ensures.most,
      c.symbol_len.ensures.value,
    )

pub returns-in_err-put-clause-cut : goal.returns-in_err-put-clause-cut
returns-in_err-put-clause-cut g c =
    let held = g.K.Sink.held in
    let before = c.args.staging.now.bytes in
    let packet = packet_bytes c.args.header.now (c.args.id, c.args.symbol.now) in
    on_err c.from_residual.result (AppendsFront (held c.args.sink.now) (held c.put.new.sink)
    (before ++ packet)) (cut_longer (held c.args.sink.now) (held c.put.new.sink) before packet
    c.in_err-put.ensures.cut)

pub returns-in_err-put-2-clause-cut : goal.returns-in_err-put-2-clause-cut
returns-in_err-put-2-clause-cut g c =
    let held = g.K.Sink.held in
    let h = c.args.header.now in
    let before = c.args.staging.now.bytes in
    let between = c.put.new.self.bytes in
    let body = payload h (c.args.id, c.args.symbol.now) in
    let first = subst (PassesOn (held c.args.sink.now) (held c.put.new.sink) before between)
    c.write_head-count.ensures.head c.in_ok-put.ensures.passed in
    on_err c.from_residual-in_err-put-2.result (AppendsFront (held c.args.sink.now)
    (held c.put-2.new.sink) (before ++ packet_bytes h (c.args.id, c.args.symbol.now)))
    (cut_after (held c.args.sink.now) (held c.put.new.sink) (held c.put-2.new.sink) before between
    (packet_head h c.args.id) body first (cut_longer (held c.put.new.sink) (held c.put-2.new.sink)
    between body c.in_err-put-2.ensures.cut))

pub returns-clause-passed : goal.returns-clause-passed
returns-clause-passed g c =
    let held = g.K.Sink.held in
    let h = c.args.header.now in
    let before = c.args.staging.now.bytes in
    let between = c.put.new.self.bytes in
    let first = subst (PassesOn (held c.args.sink.now) (held c.put.new.sink) before between)
    c.write_head-count.ensures.head c.in_ok-put.ensures.passed in
    let second = subst (λ n. PassesOn (held c.put.new.sink) (held c.put-2.new.sink) between
    c.put-2.new.self.bytes (take n c.args.symbol.now)) c.payload_len-len.ensures.value
    c.in_ok-put-2.ensures.passed in
    passes_after (held c.args.sink.now) (held c.put.new.sink) (held c.put-2.new.sink) before between
    c.put-2.new.self.bytes (packet_head h c.args.id) (payload h (c.args.id, c.args.symbol.now))
    first second
