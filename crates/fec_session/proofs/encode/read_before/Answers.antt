use Rattle.std.proofs.Common.{◌+◌, ◌≤◌, length, ap, arith, length-take-le}
use Rattle.sparse_rows.specs.Matrix.{row_of}
use Rattle.sparse_rows.proofs.Flat.{rising_short}
use Rattle.fec_session.proofs.Rows.{code_row, row_some}
use Rattle.fec_session.proofs.encode.read_before.Goals as goal

pub overflow_sub-i-end : goal.overflow_sub-i-end
overflow_sub-i-end g c =
    let m = c.args.code.now in
    omega (
      arith,
      row_some m.k (m.k + c.args.r) (row_of m c.args.r)
          (code_row m c.k.ensures.code c.args.r c.requires.row),
      c.row_len-i-end.ensures,
    )

pub push_reserved-requires : goal.push_reserved-requires
push_reserved-requires g c =
    let m = c.args.code.now in
    let row = code_row m c.k.ensures.code c.args.r c.requires.row in
    let short : length (row_of m c.args.r) ≤ m.k + c.args.r + 1 = rising_short (row_of m c.args.r)
    (m.k + c.args.r) row.rising row.within in
    omega (
      arith,
      short,
      c.requires.row,
      c.requires.room,
      c.loop-i.invariant.room,
      c.loop-i-test.true,
      c.row_len-i-end.ensures,
      ap length c.loop-i.invariant.columns,
      length-take-le c.loop-i.i (row_of m c.args.r)
          (omega (arith, c.loop-i-test.true, c.row_len-i-end.ensures)),
      c.loop-i.columns.ok.0,
    )
