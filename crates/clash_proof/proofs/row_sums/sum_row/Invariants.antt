use Rattle.std.proofs.Common.{◌≡◌, ℕ, take, bit_xor, get_or, length}
use Rattle.sparse_rows.specs.Matrix.{row_of}
use Rattle.sparse_rows.specs.Totals.{total}
use Rattle.clash_proof.specs.RowSums.{kept_byte}
use Rattle.clash_proof.proofs.row_sums.sum_row.Given as goal

abbrev pub invariant-loop-i : goal.invariant-loop-i
invariant-loop-i l = record {
  long : length l.sum ≡ l.ev.len;
  bytes : (t : ℕ) → get_or l.sum t 0
      ≡ total 0 bit_xor (kept_byte l.ev t) (take l.i (row_of l.code l.r));
}
