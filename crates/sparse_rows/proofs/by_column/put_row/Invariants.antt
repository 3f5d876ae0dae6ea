use Rattle.std.proofs.Common.{take}
use Rattle.sparse_rows.specs.Rows.{lists_of}
use Rattle.sparse_rows.specs.Rows.{GainsRow}
use Rattle.sparse_rows.proofs.by_column.put_row.Given as goal

abbrev pub invariant-loop-c : goal.invariant-loop-c
invariant-loop-c l = GainsRow l.r (take l.c-index l.row) (lists_of l.initial.columns)
    (lists_of l.columns)
