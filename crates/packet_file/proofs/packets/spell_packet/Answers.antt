use Rattle.std.proofs.Common.{◌≡◌, ◌+◌, ◌++◌, length, take, sym, ap, ap₂, ◌∙◌, arith}
use Rattle.std.proofs.Common.{length-take-le}
use Rattle.packet_file.specs.Packets.{packet_head, payload}
use Rattle.packet_file.proofs.packets.spell_packet.Goals as goal

pub returns-clause-bytes : goal.returns-clause-bytes
returns-clause-bytes c =
    let h = c.args.h.now in
    let count = c.write_head-count.result in
    let len = c.payload_len-len.result in
    let head = take count c.write_head-count.new.head in
    let symbol = c.args.symbol.now in
    let first = c.put_piece.new.out in
    let head_long : 0 + length head ≡ count =
    omega (
      arith,
      length-take-le count c.write_head-count.new.head
          (omega (arith, c.write_head-count.ensures.most, c.write_head-count.array_long)),
    ) in
    let long : length (take len symbol) ≡ len = length-take-le len symbol
    (omega (arith, c.payload_len-len.ensures.most, c.requires.packet.long)) in
    let front : take count first ≡ packet_head h c.args.id =
    ap (λ n. take n first) (sym head_long) ∙ c.put_piece.ensures.bytes
    ∙ c.write_head-count.ensures.head in
    let behind : take len symbol ≡ payload h (c.args.id, symbol) =
    ap (λ n. take n symbol) c.payload_len-len.ensures.value in
    ap (λ n. take (count + n) c.put_piece-2.new.out) (sym long) ∙ c.put_piece-2.ensures.bytes
    ∙ ap₂ (λ a b. a ++ b) front behind
