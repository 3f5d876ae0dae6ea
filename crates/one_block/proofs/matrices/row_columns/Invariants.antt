use Rattle.std.proofs.Common.{◌≡◌, take}
use Rattle.sparse_rows.specs.Matrix.{row_of}
use Rattle.one_block.proofs.matrices.row_columns.Given as goal

abbrev pub invariant-loop-i : goal.invariant-loop-i
invariant-loop-i l = l.columns.items ≡ take l.i (row_of l.code l.r)
