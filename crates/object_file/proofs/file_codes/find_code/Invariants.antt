use Rattle.std.proofs.Common.{ℕ, ◌≢◌, ◌<◌, slice_index_or}
use Rattle.sparse_rows.specs.Matrix.{Matrix}
use Rattle.object_file.proofs.file_codes.find_code.Given as goal

abbrev pub invariant-loop-code : goal.invariant-loop-code
invariant-loop-code l = (j : ℕ) (d : Matrix) → j < l.code-index
    → (slice_index_or l.codes j d).k ≢ l.k
