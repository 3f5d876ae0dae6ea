use Rattle.std.proofs.Common.{◌≡◌, false, take}
use Rattle.std.proofs.Math.Bool.{xor as bool_xor}
use Rattle.sparse_rows.specs.Columns.{column_of}
use Rattle.sparse_rows.specs.Matrix.{is_in}
use Rattle.sparse_rows.specs.Totals.{total}
use Rattle.clash_proof.proofs.checking.is_odd.Given as goal

abbrev pub invariant-loop-i : goal.invariant-loop-i
invariant-loop-i l =
    l.odd ≡ total false bool_xor (is_in l.rows) (take l.i (column_of l.code l.column))
