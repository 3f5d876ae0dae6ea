use Rattle.std.proofs.Common.{arith, refl}
use Rattle.datagram_pass.proofs.Heads.{three_bytes}
use Rattle.datagram_pass.proofs.reading.check_head.Goals as goal

pub returns-then-length-symbol-clause-fault : goal.returns-then-length-symbol-clause-fault
returns-then-length-symbol-clause-fault c = λ left. (
  refl,
  c.are_too_many.ensures.few c.if-are_too_many.false,
  omega (arith, c.if-length-symbol.true),
  c.from_be_bytes-length.type_inv,
  _,
  three_bytes c.args.head.now c.from_be_bytes-length.result c.told-head c.fits-head
      (omega (arith, c.from_be_bytes-length.ensures)),
)
