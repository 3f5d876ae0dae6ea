use Rattle.std.proofs.Common.{◌≡◌, take, map}
use Rattle.sparse_rows.specs.Matrix.{row_of}
use Rattle.sparse_rows.specs.Closure.{flagged, outside}
use Rattle.gauss.specs.Filling.{equation_at, with_equation}
use Rattle.fec_session.specs.Residue.{place}
use Rattle.fec_session.specs.Residual.{with_unknowns}
use Rattle.fec_session.proofs.residue.put_unknowns.Given as goal

abbrev pub invariant-loop-i : goal.invariant-loop-i
invariant-loop-i l = l.eqs ≡ with_equation l.initial.eqs l.r
    (with_unknowns (map (place l.core)
    (outside (flagged l.core.known) (take l.i (row_of l.core.matrix l.row))))
    (equation_at l.initial.eqs l.r))
