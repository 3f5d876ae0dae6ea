use Rattle.std.proofs.Common.{◌≡◌, take}
use Rattle.sparse_rows.specs.Rows.{lists_of}
use Rattle.sparse_rows.specs.Rows.{columns_in}
use Rattle.sparse_rows.proofs.by_column.by_columns.Given as goal

abbrev pub invariant-loop-r : goal.invariant-loop-r
invariant-loop-r l = lists_of l.columns.items ≡ columns_in l.n (take l.r (lists_of l.rows))
