use Rattle.std.proofs.Common.{◌≡◌, false, sym, ap, ◌∙◌, arith}
use Rattle.std.proofs.Math.Bool.{xor as bool_xor}
use Rattle.sparse_rows.proofs.Parity.{bit_laws}
use Rattle.gauss.specs.Packed.{bits_of, byte_of}
use Rattle.gauss.proofs.table.apply_row.Goals as goal

pub returns-then-byte-eq0-clause-row : goal.returns-then-byte-eq0-clause-row
returns-then-byte-eq0-clause-row c le d =
    let zero : byte_of c.args.group.width c.args.words.now c.args.r c.args.group.number ≡ 0 =
    omega (arith, c.byte_of-byte.ensures.value, c.if-byte-eq0.true) in
    sym (ap (λ b. bool_xor (bits_of c.args.group.width c.args.words.now c.args.r d)
    (bits_of c.args.group.width c.args.table.now b d)) zero
    ∙ ap (bool_xor (bits_of c.args.group.width c.args.words.now c.args.r d)) (c.requires.zero d)
    ∙ bit_laws.comm _ false ∙ bit_laws.left _)
