use Rattle.std.proofs.Common.{◌∙◌, ap, sym, refl}
use Rattle.std.proofs.lemmas.Bool.{false_from_ne_true}
use Rattle.fec_base.specs.Symbol.{xor_sum}
use Rattle.sparse_rows.specs.Closure.{flagged}
use Rattle.peeling.specs.Decoder.{kept}
use Rattle.fec_session.proofs.Opened.{IsRead, is_read, pass_no, sum_known}
use Rattle.fec_session.proofs.residue.sum_known.Goals as goal
use Rattle.fec_session.proofs.residue.sum_known.Goals.{in-Some, in_default}

pub symbol-requires : goal.symbol-requires
symbol-requires c =
    (is_read c.args.core.now c.code.ensures.decoder c.args.row c.requires.row c.code.result.now
    c.code-in-loop-i.result.now c.code.ensures.value c.code-in-loop-i.ensures.value c.loop-i.i
    c.row_len-i-end.result c.row_entry-column.result
    c.row_len-i-end.ensures c.loop-i-test.true c.row_entry-column.ensures.value).below

pub loop-i-preserved : goal.loop-i-preserved
loop-i-preserved c =
    let d = c.args.core.now in
    let column = c.row_entry-column.result in
    let read : IsRead d c.args.row c.loop-i.i column =
    is_read d c.code.ensures.decoder c.args.row c.requires.row c.code.result.now
    c.code-in-loop-i.result.now c.code.ensures.value c.code-in-loop-i.ensures.value c.loop-i.i
    c.row_len-i-end.result column
    c.row_len-i-end.ensures c.loop-i-test.true c.row_entry-column.ensures.value in
    elim c.match-symbol.branch [
      | in-Some w ↦ sum_known d c.args.row c.loop-i.i column read c.code.ensures.decoder
          (w.in-Some.ensures.known.0 refl) c.loop-i.sum w.in-Some.bytes.now c.match-symbol.sum
          c.loop-i.invariant
          w.in-Some.ensures.value (w.sum-is ∙ w.xor_into.ensures)
      | in_default w ↦ w.sum-is ∙ c.loop-i.invariant
          ∙ ap (xor_sum d.len (kept d)) (sym (pass_no d c.args.row c.loop-i.i column read
          (flagged d.known) (false_from_ne_true (flagged d.known column)
          (λ h. absurd (cc (w.in_default.ensures.known.1 h))))))
    ]
