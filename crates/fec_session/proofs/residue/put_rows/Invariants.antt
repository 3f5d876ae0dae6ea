use Rattle.std.proofs.Common.{◌≡◌, take, count_by}
use Rattle.fec_session.specs.Residue.{is_open}
use Rattle.fec_session.proofs.Gathered.{so_far}
use Rattle.fec_session.proofs.residue.put_rows.Given as goal

abbrev pub invariant-loop-row : goal.invariant-loop-row
invariant-loop-row l = record {
  eqs : l.eqs ≡ so_far l.core l.row;
  place : l.r ≡ count_by (is_open l.core) (take l.row l.core.matrix.rows);
}
