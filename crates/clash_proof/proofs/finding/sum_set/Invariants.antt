use Rattle.std.proofs.Common.{◌≡◌, ℕ, bit_xor, get_or, length}
use Rattle.sparse_rows.specs.Matrix.{is_in}
use Rattle.gauss.specs.Elimination.{product}
use Rattle.gauss.specs.Reduction.{set_at}
use Rattle.clash_proof.specs.RowSums.{row_byte}
use Rattle.clash_proof.proofs.finding.sum_set.Given as goal

abbrev pub invariant-loop-r : goal.invariant-loop-r
invariant-loop-r l = record {
  long : length l.sum ≡ l.ev.len;
  bytes : (t : ℕ) → get_or l.sum t 0
      ≡ product 0 bit_xor l.r (is_in (set_at l.sets l.i)) (row_byte l.code l.ev t);
}
