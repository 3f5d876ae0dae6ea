use Rattle.std.proofs.Common.{◌≡◌, ltb, not}
use Rattle.sparse_rows.specs.Closure.{members}
use Rattle.gauss.specs.Elimination.{pivot_row}
use Rattle.gauss.proofs.masks.without_pivots.Given as goal

abbrev pub invariant-loop-p : goal.invariant-loop-p
invariant-loop-p l = l.free.items ≡ members l.p
    (λ q. not (ltb (pivot_row l.rows l.pivots q) l.rows))
