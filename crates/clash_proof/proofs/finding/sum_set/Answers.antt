use Rattle.std.proofs.Common.{◌≡◌, ◌<◌, ◌∙◌, [], length, get_or, cond, true, false, sym, ap, ap₂}
use Rattle.std.proofs.Common.{arith, bit_xor}
use Rattle.fec_base.specs.Symbol.{xor}
use Rattle.fec_base.proofs.SymbolBytes.{byte, byte_xor, length_xor}
use Rattle.sparse_rows.specs.Matrix.{is_in}
use Rattle.sparse_rows.proofs.Algebra.{right}
use Rattle.sparse_rows.proofs.Planes.{byte_laws}
use Rattle.gauss.specs.Reduction.{set_at}
use Rattle.gauss.proofs.Growing.{product_more}
use Rattle.clash_proof.specs.RowSums.{row_byte}
use Rattle.clash_proof.proofs.finding.sum_set.Goals as goal
use Rattle.clash_proof.proofs.finding.sum_set.Goals.{else-holds, then-holds}

pub loop-r-preserved : goal.loop-r-preserved
loop-r-preserved c =
    let m = c.args.code.now in
    let r = c.loop-r.r in
    let mask = is_in (set_at c.args.sets.now c.args.i) in
    let sum = c.loop-r.sum in
    let own = get_or c.args.sums.now r [] in
    let lt : r < length m.rows = omega (
      arith,
      c.loop-r-test.true,
      c.n.ensures.value,
      c.k.ensures.value,
      c.n.ensures.code.shape.count,
    ) in
    let same : length sum ≡ length own =
    c.loop-r.invariant.long ∙ sym (c.requires.sums.long r lt) in
    elim c.if-holds.branch [
      | then-holds w ↦ (
          let has : mask r ≡ true = sym c.holds.ensures ∙ w.if-holds.true in
          let now : c.if-holds.sum ≡ xor sum own =
          w.sum-is ∙ w.xor_into.ensures ∙ ap (xor sum) w.get.ensures in
          record {
            long = ap length now ∙ length_xor sum own same ∙ c.loop-r.invariant.long;
            bytes = λ t. let x = row_byte m c.args.ev.now t in
                ap (byte t) now ∙ byte_xor sum own same t
                ∙ ap₂ bit_xor (c.loop-r.invariant.bytes t) (c.requires.sums.bytes r t lt
                ∙ sym (ap (λ b. cond b (x r) 0) has))
                ∙ sym (product_more 0 bit_xor byte_laws r mask x);
          })
      | else-holds w ↦ (
          let lacks : mask r ≡ false = sym c.holds.ensures ∙ w.if-holds.false in
          record {
            long = ap length w.sum-is ∙ c.loop-r.invariant.long;
            bytes = λ t. let x = row_byte m c.args.ev.now t in
                ap (byte t) w.sum-is ∙ c.loop-r.invariant.bytes t
                ∙ sym (right 0 bit_xor byte_laws _)
                ∙ ap (bit_xor _) (sym (ap (λ b. cond b (x r) 0) lacks))
                ∙ sym (product_more 0 bit_xor byte_laws r mask x);
          })
    ]
