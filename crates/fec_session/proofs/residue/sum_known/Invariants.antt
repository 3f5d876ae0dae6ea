use Rattle.std.proofs.Common.{◌≡◌, take, filter}
use Rattle.fec_base.specs.Symbol.{xor_sum}
use Rattle.sparse_rows.specs.Matrix.{row_of}
use Rattle.sparse_rows.specs.Closure.{flagged}
use Rattle.peeling.specs.Decoder.{kept}
use Rattle.fec_session.proofs.residue.sum_known.Given as goal

abbrev pub invariant-loop-i : goal.invariant-loop-i
invariant-loop-i l = l.sum ≡ xor_sum l.core.len (kept l.core)
    (filter (flagged l.core.known) (take l.i (row_of l.core.matrix l.row)))
