use Rattle.std.proofs.Common.{◌≡◌, ◌%◌, ◌==◌, true, false, refl, sym, ◌∙◌}
use Rattle.std.specs.Int.{bit_at}
use Rattle.std.proofs.Math.Bool.{xor as bool_xor}
use Rattle.gauss.specs.Packed.{bits_of}
use Rattle.gauss.proofs.Tabled.{test_is}
use Rattle.gauss.proofs.table.update_row.Goals as goal

pub returns-then-byte-unknown-clause-row : goal.returns-then-byte-unknown-clause-row
returns-then-byte-unknown-clause-row c d =
    let e : bool_xor (bit_at c.args.byte (c.args.unknown % 8) == 1)
    (bits_of c.args.width c.args.table.now c.args.byte c.args.unknown) ≡ true =
    test_is c.args.byte (c.args.unknown % 8) c.has.result _ true c.has.ensures
    c.if-byte-unknown.true in
    c.add_row.ensures.row d ∙ sym (rw e refl)

pub returns-else-byte-unknown-clause-row : goal.returns-else-byte-unknown-clause-row
returns-else-byte-unknown-clause-row c d =
    let e : bool_xor (bit_at c.args.byte (c.args.unknown % 8) == 1)
    (bits_of c.args.width c.args.table.now c.args.byte c.args.unknown) ≡ false =
    test_is c.args.byte (c.args.unknown % 8) c.has.result _ false c.has.ensures
    c.if-byte-unknown.false in
    sym (rw e refl)
