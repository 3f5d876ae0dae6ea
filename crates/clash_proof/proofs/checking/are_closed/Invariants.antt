use Rattle.std.proofs.Common.{◌≡◌, ℕ, ◌<◌, true}
use Rattle.sparse_rows.specs.Closure.{flagged}
use Rattle.clash_proof.specs.RowSets.{odd_columns}
use Rattle.clash_proof.proofs.checking.are_closed.Given as goal

abbrev pub invariant-loop-column : goal.invariant-loop-column
invariant-loop-column l = (column : ℕ) → column < l.column
    → odd_columns l.code l.rows column ≡ true → flagged l.ev.arrived column ≡ true
