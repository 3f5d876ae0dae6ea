use Rattle.std.proofs.Common.{◌≡◌, take}
use Rattle.std.specs.Vec.{vec_capacity}
use Rattle.sparse_rows.specs.Matrix.{row_of}
use Rattle.fec_session.proofs.encode.read_before.Given as goal

abbrev pub invariant-loop-i : goal.invariant-loop-i
invariant-loop-i g l = record {
  columns : l.columns.items ≡ take l.i (row_of l.code l.r);
  room : vec_capacity l.columns ≡ vec_capacity l.initial.columns;
}
