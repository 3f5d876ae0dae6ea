use Rattle.std.proofs.Common.{◌≡◌, ◌%◌, cond, take, count_by}
use Rattle.sparse_rows.specs.Matrix.{row_of, is_in}
use Rattle.null_witness.proofs.check_word.row_is_even.Given as goal

abbrev pub invariant-loop-i : goal.invariant-loop-i
invariant-loop-i l = count_by (is_in l.word) (take l.i (row_of l.code l.r)) % 2 ≡ cond l.even 0 1
