use Rattle.std.proofs.Common.{◌∙◌, sym, ap₂, bit_xor}
use Rattle.sparse_rows.proofs.Planes.{byte_laws}
use Rattle.clash_proof.specs.RowSums.{row_byte}
use Rattle.clash_proof.proofs.Steps.{total_more}
use Rattle.clash_proof.proofs.checking.sum_byte.Goals as goal

pub loop-r-preserved : goal.loop-r-preserved
loop-r-preserved c = ap₂ bit_xor c.loop-r.invariant c.row_byte-byte.ensures
    ∙ sym (total_more 0 bit_xor byte_laws (row_byte c.args.code.now c.args.ev.now c.args.t)
    c.args.rows.now c.loop-r.r-index c.loop-r-test.true)
