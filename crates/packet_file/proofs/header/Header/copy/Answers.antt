use Rattle.packet_file.proofs.Limits.{no_size_fault}
use Rattle.packet_file.proofs.header.Header.copy.Goals as goal

pub unreachable-requires : goal.unreachable-requires
unreachable-requires c = no_size_fault c.args.self.now c.oti.ensures.header c.codec.result
    c.oti.result.now c.codec.ensures c.oti.ensures.value _ c.in-Err.ensures.err
