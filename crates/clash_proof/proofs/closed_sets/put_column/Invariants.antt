use Rattle.std.proofs.Common.{◌≡◌, take}
use Rattle.sparse_rows.specs.Columns.{column_of}
use Rattle.gauss.specs.Filling.{equation_at, with_equation}
use Rattle.clash_proof.specs.Transposed.{with_rows}
use Rattle.clash_proof.proofs.closed_sets.put_column.Given as goal

abbrev pub invariant-loop-i : goal.invariant-loop-i
invariant-loop-i l = l.eqs ≡ with_equation l.initial.eqs l.r
    (with_rows (take l.i (column_of l.code l.column)) (equation_at l.initial.eqs l.r))
