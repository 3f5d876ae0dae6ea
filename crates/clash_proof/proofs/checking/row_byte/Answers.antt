use Rattle.std.proofs.Common.{◌<◌, ◌∙◌, length, get_or, sym, ap, ap₂, arith, bit_xor}
use Rattle.sparse_rows.specs.Matrix.{row_of}
use Rattle.sparse_rows.proofs.Planes.{byte_laws}
use Rattle.sparse_rows.proofs.Shape.{row_below}
use Rattle.clash_proof.specs.RowSums.{kept_byte}
use Rattle.clash_proof.proofs.Steps.{total_more}
use Rattle.clash_proof.proofs.checking.row_byte.Goals as goal

pub row_len-i-end-requires : goal.row_len-i-end-requires
row_len-i-end-requires c = omega (arith, c.requires.row, c.requires.shape.count)

pub symbol-requires : goal.symbol-requires
symbol-requires c =
    let row = row_of c.args.code.now c.args.r in
    let lt : c.loop-i.i < length row =
    omega (arith, c.loop-i-test.true, c.row_len-i-end.ensures) in
    let below = row_below c.args.code.now c.requires.shape c.args.r c.requires.row c.loop-i.i 0
    lt in
    omega (arith, below, c.requires.n, c.row_entry.ensures.value)

pub loop-i-preserved : goal.loop-i-preserved
loop-i-preserved c =
    let row = row_of c.args.code.now c.args.r in
    let ev = c.args.ev.now in
    let lt : c.loop-i.i < length row =
    omega (arith, c.loop-i-test.true, c.row_len-i-end.ensures) in
    ap₂ bit_xor c.loop-i.invariant (ap (λ s. get_or s c.args.t 0) c.symbol.ensures.value
    ∙ ap (kept_byte ev c.args.t) c.row_entry.ensures.value)
    ∙ sym (total_more 0 bit_xor byte_laws (kept_byte ev c.args.t) row c.loop-i.i lt)
