use Rattle.std.proofs.Common.{arith}
use Rattle.packet_file.proofs.Limits.{ids_fit}
use Rattle.packet_file.proofs.header.is_last.Goals as goal

pub overflow_add-id : goal.overflow_add-id
overflow_add-id c =
    let fits = ids_fit c.args.h.now c.args.id c.oti-oti.ensures.header c.requires in
    omega (arith, fits.sbn_bits)

pub overflow_add-result : goal.overflow_add-result
overflow_add-result c =
    let fits = ids_fit c.args.h.now c.args.id c.oti-oti.ensures.header c.requires in
    omega (arith, fits.esi_bits)
