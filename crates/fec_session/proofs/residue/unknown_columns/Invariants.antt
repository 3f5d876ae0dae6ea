use Rattle.std.proofs.Common.{◌≡◌, not}
use Rattle.sparse_rows.specs.Closure.{flagged, members}
use Rattle.fec_session.proofs.residue.unknown_columns.Given as goal

abbrev pub invariant-loop-column : goal.invariant-loop-column
invariant-loop-column l = l.columns.items ≡ members l.column (λ c. not (flagged l.core.known c))
