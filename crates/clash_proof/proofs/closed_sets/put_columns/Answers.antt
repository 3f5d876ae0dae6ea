use Rattle.std.proofs.Common.{◌≡◌, ◌<◌, ◌+◌, ◌∙◌, ℕ, not, true, false, length, cond}
use Rattle.std.proofs.Common.{count_by, sym, ap, subst, arith}
use Rattle.std.proofs.lemmas.List.{length-set, take_all}
use Rattle.std.proofs.lemmas.List.Sums.{count_by_more_no, count_by_more_yes, sum_by-take-le}
use Rattle.sparse_rows.specs.Closure.{flagged}
use Rattle.gauss.specs.Equations.{System}
use Rattle.clash_proof.specs.Transposed.{IsTransposed}
use Rattle.clash_proof.proofs.Transposing.{added, skipped}
use Rattle.clash_proof.proofs.closed_sets.put_columns.Goals as goal
use Rattle.clash_proof.proofs.closed_sets.put_columns.Goals.{else-not-has_arrived}
use Rattle.clash_proof.proofs.closed_sets.put_columns.Goals.{then-not-has_arrived}

pub put_column-requires-clause-equation : goal.put_column-requires-clause-equation
put_column-requires-clause-equation c =
    let arrived = c.args.ev.now.arrived in
    let kept = c.has_arrived.ensures.kept in
    let low : c.loop-column.column < length arrived =
    omega (arith, c.loop-column-test.true, c.n-column-end.ensures.value, kept.flags) in
    let missing : not (flagged arrived c.loop-column.column) ≡ true =
    ap not (sym c.has_arrived.ensures.value ∙ c.if-not-has_arrived.true) in
    let more = count_by_more_yes not arrived c.loop-column.column false low missing in
    let most = sum_by-take-le (λ b. cond (not b) 1 0) arrived (c.loop-column.column + 1) in
    omega (arith, more, most, c.loop-column.invariant.count, c.loop-column.invariant.place)

pub loop-column-preserved : goal.loop-column-preserved
loop-column-preserved c =
    let arrived = c.args.ev.now.arrived in
    let kept = c.has_arrived.ensures.kept in
    let column = c.loop-column.column in
    let r = c.loop-column.r in
    let eqs = c.loop-column.eqs in
    let low : column < length arrived =
    omega (arith, c.loop-column-test.true, c.n-column-end.ensures.value, kept.flags) in
    elim c.if-not-has_arrived.branch [
      | then-not-has_arrived w ↦ (
          let gone : flagged arrived column ≡ false =
          sym c.has_arrived.ensures.value ∙ w.if-not-has_arrived.true in
          let more = count_by_more_yes not arrived column false low (ap not gone) in
          let most = sum_by-take-le (λ b. cond (not b) 1 0) arrived (column + 1) in
          let lt : r < length eqs.equations = omega (
            arith,
            more,
            most,
            c.loop-column.invariant.count,
            c.loop-column.invariant.place,
          ) in
          record {
            system = subst (λ (n : ℕ).
                IsTransposed c.args.code.now (flagged arrived) (column + 1) n
                c.if-not-has_arrived.eqs) (sym w.r-is)
                (added c.args.code.now (flagged arrived) column r eqs
                c.loop-column.invariant.system gone lt c.if-not-has_arrived.eqs
                (w.eqs-is ∙ w.put_column.ensures));
            count = ap (λ (s : System). length s.equations) (w.eqs-is ∙ w.put_column.ensures)
                ∙ length-set eqs.equations r _ ∙ c.loop-column.invariant.count;
            place = w.r-is ∙ ap (λ (n : ℕ). n + 1) c.loop-column.invariant.place ∙ sym more;
          })
      | else-not-has_arrived w ↦ (
          let came : flagged arrived column ≡ true =
          sym c.has_arrived.ensures.value ∙ w.if-not-has_arrived.false in
          record {
            system = subst (λ (s : System).
                IsTransposed c.args.code.now (flagged arrived) (column + 1)
                c.if-not-has_arrived.r s) (sym w.eqs-is)
                (subst (λ (n : ℕ).
                IsTransposed c.args.code.now (flagged arrived) (column + 1) n eqs) (sym w.r-is)
                (skipped c.args.code.now (flagged arrived) column r eqs
                c.loop-column.invariant.system came));
            count = ap (λ (s : System). length s.equations) w.eqs-is
                ∙ c.loop-column.invariant.count;
            place = w.r-is ∙ c.loop-column.invariant.place
                ∙ sym (count_by_more_no not arrived column false low (ap not came));
          })
    ]

pub returns : goal.returns
returns c =
    let m = c.args.code.now in
    let s = flagged c.args.ev.now.arrived in
    let column : c.loop-column.column ≡ m.n = omega (
      arith,
      c.loop-column-test.false,
      c.loop-column.auto.column-end,
      c.n-column-end.ensures.value,
      c.requires.n,
    ) in
    let all : c.loop-column.r ≡ length c.loop-column.eqs.equations =
    c.loop-column.invariant.place
    ∙ ap (count_by not) (take_all c.loop-column.column c.args.ev.now.arrived
    (omega (arith, column, c.requires.n, c.n-column-end.ensures.kept.flags)))
    ∙ sym c.loop-column.invariant.count in
    subst (λ (n : ℕ). IsTransposed m s n (length c.loop-column.eqs.equations) c.loop-column.eqs)
    column (subst (λ (r : ℕ). IsTransposed m s c.loop-column.column r c.loop-column.eqs) all
    c.loop-column.invariant.system)
