use Rattle.std.proofs.Common.{◌≡◌, ⊎_elim, subst, true, arith}
use Rattle.std.proofs.lemmas.Bool.{cases_lt}
use Rattle.sparse_rows.specs.Closure.{flagged}
use Rattle.clash_proof.specs.RowSets.{odd_columns}
use Rattle.clash_proof.proofs.checking.are_closed.Goals as goal

pub loop-column-preserved : goal.loop-column-preserved
loop-column-preserved c column lt = ⊎_elim (c.loop-column.invariant column)
    (λ le. let e : c.loop-column.column ≡ column = omega (arith, le, lt) in
    subst (λ d. odd_columns c.args.code.now c.args.rows.now d ≡ true
    → flagged c.args.ev.now.arrived d ≡ true) e (c.is_met.ensures.0 c.if-not-is_met.false))
    (cases_lt column c.loop-column.column)
