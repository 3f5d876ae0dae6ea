use Rattle.std.proofs.Common.{◌≡◌, ◌<◌, ◌≤◌, ◌∙◌, false, length, get_or, sym, ap, ap₂, arith}
use Rattle.std.proofs.Math.Bool.{xor as bool_xor}
use Rattle.sparse_rows.specs.Columns.{column_of}
use Rattle.sparse_rows.specs.Matrix.{is_in}
use Rattle.sparse_rows.proofs.Parity.{bit_laws}
use Rattle.clash_proof.proofs.Closed.{odd_column}
use Rattle.clash_proof.proofs.Steps.{total_all, total_more, turned, unturned}
use Rattle.clash_proof.proofs.checking.is_odd.Goals as goal
use Rattle.clash_proof.proofs.checking.is_odd.Goals.{else-has_row, then-has_row}

pub loop-i-preserved : goal.loop-i-preserved
loop-i-preserved c =
    let rows = is_in c.args.rows.now in
    let column = column_of c.args.code.now c.args.column in
    let lt : c.loop-i.i < length column =
    omega (arith, c.loop-i-test.true, c.col_len-i-end.ensures) in
    let has : c.has_row.result ≡ rows (get_or column c.loop-i.i 0) =
    c.has_row.ensures ∙ ap rows c.col_entry.ensures.value in
    let more = total_more false bool_xor bit_laws rows column c.loop-i.i lt in
    elim c.if-has_row.branch [
      | then-has_row w ↦ w.odd-is ∙ turned c.loop-i.odd
          ∙ ap₂ bool_xor c.loop-i.invariant (sym w.if-has_row.true ∙ has) ∙ sym more
      | else-has_row w ↦ w.odd-is ∙ unturned c.loop-i.odd
          ∙ ap₂ bool_xor c.loop-i.invariant (sym w.if-has_row.false ∙ has) ∙ sym more
    ]

pub returns : goal.returns
returns c =
    let column = column_of c.args.code.now c.args.column in
    let all : length column ≤ c.loop-i.i =
    omega (arith, c.loop-i-test.false, c.col_len-i-end.ensures) in
    c.loop-i.invariant
    ∙ total_all false bool_xor bit_laws (is_in c.args.rows.now) column c.loop-i.i all
    ∙ sym (odd_column c.args.code.now c.args.rows.now c.requires.rising c.requires.below
    c.args.column)
