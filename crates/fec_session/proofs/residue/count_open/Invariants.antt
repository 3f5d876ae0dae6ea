use Rattle.std.proofs.Common.{◌≡◌, take, count_by}
use Rattle.fec_session.specs.Residue.{is_open}
use Rattle.fec_session.proofs.residue.count_open.Given as goal

abbrev pub invariant-loop-row : goal.invariant-loop-row
invariant-loop-row l = l.count ≡ count_by (is_open l.core) (take l.row l.core.matrix.rows)
