use Rattle.std.proofs.Common.{◌≡◌, ◌<◌, length, take, refl, arith}
use Rattle.std.proofs.lemmas.List.{take_all}
use Rattle.sparse_rows.specs.Matrix.{row_of}
use Rattle.peeling.proofs.Columns.{column_below}
use Rattle.peeling.proofs.Counted.{xor_more}
use Rattle.peeling.proofs.unknowns.row_unknowns.Goals as goal

pub overflow_cast-columns : goal.overflow_cast-columns
overflow_cast-columns c = omega (
  arith,
  c.n.ensures.code.most,
  c.n.ensures.value,
  c.row_entry.ensures.value,
  column_below c.args.code.now c.n.ensures.code c.args.r c.requires c.loop-i.i
      (omega (arith, c.loop-i-test.true, c.row_len-count.ensures)),
)

pub loop-i-preserved : goal.loop-i-preserved
loop-i-preserved c =
    let inside : c.loop-i.i < length (row_of c.args.code.now c.args.r) =
    omega (arith, c.loop-i-test.true, c.row_len-count.ensures) in
    xor_more (row_of c.args.code.now c.args.r) c.loop-i.i c.row_entry.result
    c.loop-i.columns inside c.row_entry.ensures.value c.loop-i.invariant

pub returns : goal.returns
returns c =
    let whole : take c.loop-i.i (row_of c.args.code.now c.args.r) ≡ row_of c.args.code.now
    c.args.r = take_all c.loop-i.i (row_of c.args.code.now c.args.r)
    (omega (arith, c.loop-i-test.false, c.row_len-count.ensures)) in
    rw (c.row_len-count.ensures, c.loop-i.invariant, whole) refl
