use Rattle.std.proofs.Common.{◌≡◌, take, []}
use Rattle.sparse_rows.specs.Matrix.{row_of}
use Rattle.sparse_rows.specs.Closure.{flagged, outside}
use Rattle.fec_session.proofs.residue.is_open.Given as goal

abbrev pub invariant-loop-i : goal.invariant-loop-i
invariant-loop-i l = outside (flagged l.core.known) (take l.i (row_of l.core.matrix l.row)) ≡ []
