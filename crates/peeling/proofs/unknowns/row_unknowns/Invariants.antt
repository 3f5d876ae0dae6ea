use Rattle.std.proofs.Common.{◌≡◌, take}
use Rattle.sparse_rows.specs.Matrix.{row_of}
use Rattle.peeling.specs.Unknowns.{xor_of}
use Rattle.peeling.proofs.unknowns.row_unknowns.Given as goal

abbrev pub invariant-loop-i : goal.invariant-loop-i
invariant-loop-i l = l.columns ≡ xor_of (take l.i (row_of l.code l.r))
