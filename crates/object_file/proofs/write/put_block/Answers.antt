use Rattle.std.proofs.Common.{◌++◌, ◌<◌, List, [], ℕ, length, subst, arith, rules}
use Rattle.fec_base.specs.Bytes.{AppendsFront}
use Rattle.packet_file.specs.Packets.{packet_bytes}
use Rattle.fec_base.proofs.Cuts.{on_err}
use Rattle.object_file.specs.File.{block_packets, identifier}
use Rattle.object_file.specs.Staged.{PassesOn}
use Rattle.object_file.proofs.PacketRuns.{pieces_pass, pieces_cut}
use Rattle.object_file.proofs.write.put_block.Goals as goal

pub loop-esi-preserved : goal.loop-esi-preserved
loop-esi-preserved g c =
    let held = g.K.Sink.held in
    let packet : ℕ → List ℕ → List ℕ = λ esi symbol. packet_bytes c.args.header.now
    (identifier c.args.block esi, symbol) in
    let e = c.loop-esi.esi in
    let inside : e < length c.args.word.now =
    omega (arith, c.requires.counted, c.loop-esi-test.true, c.symbol_count-esi-end.ensures.value) in
    let second = subst (λ (symbol : List ℕ). PassesOn (held c.loop-esi.sink)
    (held c.put_packet.new.sink) c.loop-esi.staging.bytes c.put_packet.new.staging.bytes
    (packet e symbol)) c.symbol.ensures c.in_ok-put_packet.ensures.passed in
    record {
      room = search rules;
      passed = pieces_pass packet (held c.args.sink.now) (held c.loop-esi.sink)
          (held c.put_packet.new.sink) c.args.staging.now.bytes c.loop-esi.staging.bytes
          c.args.word.now e [] inside c.loop-esi.invariant.passed
          c.put_packet.new.staging.bytes second;
      later = search rules;
    }

pub returns-in_err-put_packet-clause-cut : goal.returns-in_err-put_packet-clause-cut
returns-in_err-put_packet-clause-cut g c =
    let held = g.K.Sink.held in
    let packet : ℕ → List ℕ → List ℕ = λ esi symbol. packet_bytes c.args.header.now
    (identifier c.args.block esi, symbol) in
    let e = c.loop-esi.esi in
    let inside : e < length c.args.word.now =
    omega (arith, c.requires.counted, c.loop-esi-test.true, c.symbol_count-esi-end.ensures.value) in
    let second = subst (λ (symbol : List ℕ). AppendsFront (held c.loop-esi.sink)
    (held c.put_packet.new.sink) (c.loop-esi.staging.bytes ++ packet e symbol)) c.symbol.ensures
    c.in_err-put_packet.ensures.cut in
    on_err c.from_residual.result (AppendsFront (held c.args.sink.now) (held c.put_packet.new.sink)
    (c.args.staging.now.bytes ++ block_packets c.args.header.now c.args.block c.args.word.now))
    (pieces_cut packet (held c.args.sink.now) (held c.loop-esi.sink) (held c.put_packet.new.sink)
    c.args.staging.now.bytes c.loop-esi.staging.bytes c.args.word.now e [] inside
    c.loop-esi.invariant.passed second)
