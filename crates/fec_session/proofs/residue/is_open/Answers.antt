use Rattle.std.proofs.Common.{◌∙◌, not, sym, ap}
use Rattle.sparse_rows.specs.Matrix.{row_of}
use Rattle.sparse_rows.specs.Closure.{flagged}
use Rattle.fec_session.proofs.Opened.{IsRead, is_read, unknown_is, has_any_at}
use Rattle.fec_session.proofs.residue.is_open.Goals as goal

pub symbol-requires : goal.symbol-requires
symbol-requires c =
    (is_read c.args.core.now c.code.ensures.decoder c.args.row c.requires c.code.result.now
    c.code-in-loop-i.result.now c.code.ensures.value c.code-in-loop-i.ensures.value c.loop-i.i
    c.row_len-i-end.result c.row_entry.result
    c.row_len-i-end.ensures c.loop-i-test.true c.row_entry.ensures.value).below

pub returns-then-is_none : goal.returns-then-is_none
returns-then-is_none c =
    let known = c.args.core.now.known in
    let column = c.row_entry.result in
    let read : IsRead c.args.core.now c.args.row c.loop-i.i column =
    is_read c.args.core.now c.code.ensures.decoder c.args.row c.requires c.code.result.now
    c.code-in-loop-i.result.now c.code.ensures.value c.code-in-loop-i.ensures.value c.loop-i.i
    c.row_len-i-end.result column
    c.row_len-i-end.ensures c.loop-i-test.true c.row_entry.ensures.value in
    sym (has_any_at (λ b. not (flagged known b)) (row_of c.args.core.now.matrix c.args.row)
    c.loop-i.i read.inside
    (ap (λ b. not (flagged known b)) (sym read.is) ∙ unknown_is c.symbol.result
    (flagged known column) c.is_none.result c.symbol.ensures.known c.is_none.ensures
    ∙ c.if-is_none.true))
