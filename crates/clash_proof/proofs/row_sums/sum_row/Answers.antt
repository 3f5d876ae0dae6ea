use Rattle.std.proofs.Common.{◌≡◌, ◌<◌, ◌∙◌, length, sym, ap, ap₂, arith, bit_xor}
use Rattle.fec_base.proofs.SymbolBytes.{byte, byte_xor, length_xor}
use Rattle.sparse_rows.specs.Matrix.{row_of}
use Rattle.sparse_rows.proofs.Planes.{byte_laws}
use Rattle.sparse_rows.proofs.Shape.{row_below}
use Rattle.clash_proof.specs.RowSums.{kept_byte}
use Rattle.clash_proof.proofs.Steps.{total_more}
use Rattle.clash_proof.proofs.row_sums.sum_row.Goals as goal

pub symbol-requires : goal.symbol-requires
symbol-requires c =
    let row = row_of c.args.code.now c.args.r in
    let lt : c.loop-i.i < length row =
    omega (arith, c.loop-i-test.true, c.row_len-i-end.ensures) in
    let below = row_below c.args.code.now c.requires.shape c.args.r c.requires.row c.loop-i.i 0
    lt in
    omega (arith, below, c.requires.n, c.row_entry.ensures.value)

pub loop-i-preserved : goal.loop-i-preserved
loop-i-preserved c =
    let row = row_of c.args.code.now c.args.r in
    let ev = c.args.ev.now in
    let sum = c.loop-i.sum in
    let own = c.symbol.result.now in
    let lt : c.loop-i.i < length row =
    omega (arith, c.loop-i-test.true, c.row_len-i-end.ensures) in
    let same : length sum ≡ length own = c.loop-i.invariant.long ∙ sym c.symbol.ensures.long in
    record {
      long = ap length c.xor_into.ensures ∙ length_xor sum own same ∙ c.loop-i.invariant.long;
      bytes = λ t. ap (byte t) c.xor_into.ensures ∙ byte_xor sum own same t
          ∙ ap₂ bit_xor (c.loop-i.invariant.bytes t) (ap (byte t) c.symbol.ensures.value
          ∙ ap (kept_byte ev t) c.row_entry.ensures.value)
          ∙ sym (total_more 0 bit_xor byte_laws (kept_byte ev t) row c.loop-i.i lt);
    }
