use Rattle.std.proofs.Common.{◌≡◌, not, take, count_by, length}
use Rattle.sparse_rows.specs.Closure.{flagged}
use Rattle.clash_proof.specs.Transposed.{IsTransposed}
use Rattle.clash_proof.proofs.closed_sets.put_columns.Given as goal

abbrev pub invariant-loop-column : goal.invariant-loop-column
invariant-loop-column l = record {
  system : IsTransposed l.code (flagged l.ev.arrived) l.column l.r l.eqs;
  count : length l.eqs.equations ≡ count_by not l.ev.arrived;
  place : l.r ≡ count_by not (take l.column l.ev.arrived);
}
