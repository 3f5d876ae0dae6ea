use Rattle.std.proofs.Common.{sym, arith}
use Rattle.gauss.proofs.Past.{byte_past}
use Rattle.gauss.proofs.Words.{row_room}
use Rattle.gauss.proofs.packed.byte_or_zero.Goals as goal

pub returns-then-r-rows-clause-value : goal.returns-then-r-rows-clause-value
returns-then-r-rows-clause-value c = sym (byte_past c.args.rows c.args.width c.args.r c.args.group
    c.args.words.now c.requires.words c.if-r-rows.true)

pub byte_of-requires-clause-row : goal.byte_of-requires-clause-row
byte_of-requires-clause-row c =
    omega (arith, row_room c.args.rows c.args.width c.args.r c.if-r-rows.false, c.requires.words)
