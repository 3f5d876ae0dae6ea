use Rattle.std.proofs.Common.{◌≡◌, ℕ, ◌<◌, ◌%◌, count_by}
use Rattle.sparse_rows.specs.Matrix.{row_of, is_in}
use Rattle.null_witness.proofs.check_word.rows_are_even.Given as goal

abbrev pub invariant-loop-r : goal.invariant-loop-r
invariant-loop-r l = (r : ℕ) → r < l.r → count_by (is_in l.word) (row_of l.code r) % 2 ≡ 0
