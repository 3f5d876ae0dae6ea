use Rattle.std.proofs.Common.{subst}
use Rattle.sparse_rows.specs.Closure.{flagged}
use Rattle.fec_base.specs.Symbol.{zero_symbol}
use Rattle.gauss.specs.Reductions.{IsReduction}
use Rattle.clash_proof.proofs.Transposing.{closed_sets_are, zeros_solve}
use Rattle.clash_proof.proofs.closed_sets.closed_sets.Goals as goal

pub unreachable-requires : goal.unreachable-requires
unreachable-requires c =
    let system = c.in_ok-transposed.field-0 in
    let clash = subst (IsReduction system) c.in-Clash.is c.in_ok-form.ensures in
    clash (λ column. zero_symbol system.len) (zeros_solve c.args.code.now
    (flagged c.args.ev.now.arrived) system c.in_ok-transposed.ensures.system)

pub returns-clause-sets : goal.returns-clause-sets
returns-clause-sets c =
    let system = c.in_ok-transposed.field-0 in
    closed_sets_are c.args.code.now (flagged c.args.ev.now.arrived) system
    c.in_ok-transposed.ensures.system c.in-Reduced.form
    (subst (IsReduction system) c.in-Reduced.is c.in_ok-form.ensures)
