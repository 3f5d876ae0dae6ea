use Rattle.std.proofs.Common.{subst, take}
use Rattle.std.specs.Io.KnownBytes.{Appends}
use Rattle.fec_base.specs.Bytes.{AppendsFront}
use Rattle.fec_base.proofs.Cuts.{cut_behind, cut_longer, on_err}
use Rattle.packet_file.specs.Packets.{packet_bytes, packet_head, payload}
use Rattle.std.proofs.KnownBytes.{Appends-trans}
use Rattle.packet_file.proofs.packets.write_packet.Goals as goal

pub returns-clause-written : goal.returns-clause-written
returns-clause-written g c =
    let held = g.K.Sink.held in
    let h = c.args.h.now in
    let whole = subst (Appends (held c.args.sink.now) (held c.write_all.new.sink))
    c.write_head-count.ensures.head c.in_ok-write_all.ensures.bytes in
    let rest = subst (λ n. Appends (held c.write_all.new.sink) (held c.write_all-2.new.sink)
    (take n c.args.symbol.now)) c.payload_len-len.ensures.value c.in_ok-write_all-2.ensures.bytes in
    Appends-trans (held c.args.sink.now) (held c.write_all.new.sink) (held c.write_all-2.new.sink)
    (packet_head h c.args.id) (payload h (c.args.id, c.args.symbol.now)) whole rest

pub returns-in_err-write_all-clause-cut : goal.returns-in_err-write_all-clause-cut
returns-in_err-write_all-clause-cut g c =
    let held = g.K.Sink.held in
    let h = c.args.h.now in
    let cut = subst (AppendsFront (held c.args.sink.now) (held c.write_all.new.sink))
    c.write_head-count.ensures.head c.in_err-write_all.ensures.cut in
    on_err c.from_residual.result (AppendsFront (held c.args.sink.now) (held c.write_all.new.sink)
    (packet_bytes h (c.args.id, c.args.symbol.now)))
    (cut_longer (held c.args.sink.now) (held c.write_all.new.sink) (packet_head h c.args.id)
    (payload h (c.args.id, c.args.symbol.now)) cut)

pub returns-in_err-write_all-2-clause-cut : goal.returns-in_err-write_all-2-clause-cut
returns-in_err-write_all-2-clause-cut g c =
    let held = g.K.Sink.held in
    let h = c.args.h.now in
    let whole = subst (Appends (held c.args.sink.now) (held c.write_all.new.sink))
    c.write_head-count.ensures.head c.in_ok-write_all.ensures.bytes in
    let cut = subst (λ n. AppendsFront (held c.write_all.new.sink) (held c.write_all-2.new.sink)
    (take n c.args.symbol.now)) c.payload_len-len.ensures.value c.in_err-write_all-2.ensures.cut in
    on_err c.from_residual-in_err-write_all-2.result (AppendsFront (held c.args.sink.now)
    (held c.write_all-2.new.sink) (packet_bytes h (c.args.id, c.args.symbol.now)))
    (cut_behind (held c.args.sink.now) (held c.write_all.new.sink) (held c.write_all-2.new.sink)
    (packet_head h c.args.id) (payload h (c.args.id, c.args.symbol.now)) whole cut)
