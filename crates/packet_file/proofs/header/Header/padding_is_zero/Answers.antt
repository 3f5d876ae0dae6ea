use Rattle.packet_file.proofs.Lengths.{zero_is_packet}
use Rattle.packet_file.proofs.header.Header.padding_is_zero.Goals as goal

pub returns-clause-packet : goal.returns-clause-packet
returns-clause-packet c zero = zero_is_packet c.args.self.now c.args.id c.args.symbol.now
    c.requires.id c.requires.symbol (c.has_zero_padding.ensures.0 zero)
