use Rattle.std.proofs.Common.{◌≡◌, ◌<◌, ◌+◌, ◌∙◌, ℕ, [], true, false, length, ap, sym, arith}
use Rattle.std.proofs.lemmas.List.{length-set}
use Rattle.std.proofs.lemmas.List.Sums.{count_by_more_yes, count_by_more_no}
use Rattle.sparse_rows.specs.Matrix.{row_of}
use Rattle.gauss.specs.Equations.{Equation}
use Rattle.gauss.specs.Filling.{equation_at}
use Rattle.fec_session.specs.Residue.{equation_of, is_open}
use Rattle.fec_session.specs.Residual.{with_unknowns}
use Rattle.fec_session.proofs.Gathered.{rows_count, place_inside, place_empty, put_row, closed_row}
use Rattle.fec_session.proofs.residue.put_rows.Goals as goal
use Rattle.fec_session.proofs.residue.put_rows.Goals.{then-is_open, else-is_open}

pub put_unknowns-requires-clause-equation : goal.put_unknowns-requires-clause-equation
put_unknowns-requires-clause-equation c =
    let d = c.args.core.now in
    let row = c.loop-row.row in
    let inside : row < length d.matrix.rows =
    omega (
      arith,
      rows_count d c.code.ensures.decoder c.code.result.now c.code-2.result.now
          c.code.ensures.value c.code-2.ensures.value c.n.result c.k.result c.n.ensures.value
          c.k.ensures.value,
    ) in
    let yes : is_open d (row_of d.matrix row) ≡ true = sym c.is_open.ensures ∙ c.if-is_open.true in
    let lt : c.loop-row.r < length c.loop-row.eqs.equations =
    omega (
      arith,
      place_inside d row inside yes c.loop-row.r c.loop-row.invariant.place,
      ap (λ s. length s.equations) c.loop-row.invariant.eqs,
    ) in
    lt

pub put_unknowns-requires-clause-empty : goal.put_unknowns-requires-clause-empty
put_unknowns-requires-clause-empty c =
    let d = c.args.core.now in
    let row = c.loop-row.row in
    let inside : row < length d.matrix.rows =
    omega (
      arith,
      rows_count d c.code.ensures.decoder c.code.result.now c.code-2.result.now
          c.code.ensures.value c.code-2.ensures.value c.n.result c.k.result c.n.ensures.value
          c.k.ensures.value,
    ) in
    let yes : is_open d (row_of d.matrix row) ≡ true = sym c.is_open.ensures ∙ c.if-is_open.true in
    ap (λ s. (equation_at s c.loop-row.r).unknowns) c.loop-row.invariant.eqs
    ∙ ap (λ (e : Equation). e.unknowns) (place_empty d row inside yes c.loop-row.r
    c.loop-row.invariant.place)

pub set_sum-requires-clause-equation : goal.set_sum-requires-clause-equation
set_sum-requires-clause-equation c =
    let d = c.args.core.now in
    let row = c.loop-row.row in
    let inside : row < length d.matrix.rows =
    omega (
      arith,
      rows_count d c.code.ensures.decoder c.code.result.now c.code-2.result.now
          c.code.ensures.value c.code-2.ensures.value c.n.result c.k.result c.n.ensures.value
          c.k.ensures.value,
    ) in
    let yes : is_open d (row_of d.matrix row) ≡ true = sym c.is_open.ensures ∙ c.if-is_open.true in
    let eqs = c.loop-row.eqs in
    let r = c.loop-row.r in
    omega (
      arith,
      place_inside d row inside yes r c.loop-row.invariant.place,
      ap (λ s. length s.equations) c.loop-row.invariant.eqs,
      ap (λ s. length s.equations) c.put_unknowns.ensures,
      length-set eqs.equations r (with_unknowns (equation_of d (row_of d.matrix row)).unknowns
          (equation_at eqs r)),
    )

pub loop-row-preserved : goal.loop-row-preserved
loop-row-preserved c =
    let d = c.args.core.now in
    let row = c.loop-row.row in
    let inside : row < length d.matrix.rows =
    omega (
      arith,
      rows_count d c.code.ensures.decoder c.code.result.now c.code-2.result.now
          c.code.ensures.value c.code-2.ensures.value c.n.result c.k.result c.n.ensures.value
          c.k.ensures.value,
    ) in
    elim c.if-is_open.branch [
      | then-is_open w ↦ (
          let yes : is_open d (row_of d.matrix row) ≡ true = sym c.is_open.ensures
          ∙ w.if-is_open.true in
          record {
            eqs = put_row d row inside yes c.loop-row.r c.loop-row.invariant.place c.loop-row.eqs
                w.put_unknowns.new.eqs c.if-is_open.eqs w.sum_known.new.sum c.loop-row.invariant.eqs
                w.put_unknowns.ensures w.sum_known.ensures (w.eqs-is ∙ w.set_sum.ensures);
            place = w.r-is ∙ ap (λ (n : ℕ). n + 1) c.loop-row.invariant.place
                ∙ sym (count_by_more_yes (is_open d) d.matrix.rows row [] inside yes);
          })
      | else-is_open w ↦ (
          let closed : is_open d (row_of d.matrix row) ≡ false = sym c.is_open.ensures
          ∙ w.if-is_open.false in
          record {
            eqs = w.eqs-is ∙ c.loop-row.invariant.eqs ∙ closed_row d row inside closed;
            place = w.r-is ∙ c.loop-row.invariant.place
                ∙ sym (count_by_more_no (is_open d) d.matrix.rows row [] inside closed);
          })
    ]
