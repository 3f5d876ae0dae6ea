use Rattle.std.proofs.Common.{◌≡◌, ◌<◌, ℕ, [], get_or, length}
use Rattle.clash_proof.specs.RowSums.{row_byte}
use Rattle.clash_proof.proofs.row_sums.put_sums.Given as goal

abbrev pub invariant-loop-r : goal.invariant-loop-r
invariant-loop-r l = record {
  sum : length l.sum ≡ l.ev.len;
  count : length l.sums ≡ length l.code.rows;
  long : (r : ℕ) → r < length l.code.rows → length (get_or l.sums r []) ≡ l.ev.len;
  bytes : (r t : ℕ) → r < l.r → get_or (get_or l.sums r []) t 0 ≡ row_byte l.code l.ev t r;
}
