use Rattle.std.proofs.Common.{arith}
use Rattle.packet_file.proofs.Limits.{ids_fit}
use Rattle.packet_file.proofs.packets.write_head.Goals as goal

pub write_id-requires : goal.write_id-requires
write_id-requires c = ids_fit c.args.h.now c.args.id c.oti-oti.ensures.header c.requires

pub overflow_cast-len : goal.overflow_cast-len
overflow_cast-len c = omega (arith, c.true_len-len.ensures.bits)
