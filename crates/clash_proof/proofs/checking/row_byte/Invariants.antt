use Rattle.std.proofs.Common.{◌≡◌, take, bit_xor}
use Rattle.sparse_rows.specs.Matrix.{row_of}
use Rattle.sparse_rows.specs.Totals.{total}
use Rattle.clash_proof.specs.RowSums.{kept_byte}
use Rattle.clash_proof.proofs.checking.row_byte.Given as goal

abbrev pub invariant-loop-i : goal.invariant-loop-i
invariant-loop-i l =
    l.byte ≡ total 0 bit_xor (kept_byte l.ev l.t) (take l.i (row_of l.code l.r))
