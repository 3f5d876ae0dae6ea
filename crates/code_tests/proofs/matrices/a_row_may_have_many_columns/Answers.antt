use Rattle.std.proofs.Common.{refl}
use Rattle.sparse_rows.proofs.Tested.{has_shape_true}
use Rattle.code_tests.proofs.matrices.a_row_may_have_many_columns.Goals as goal

pub from_builder-requires : goal.from_builder-requires
from_builder-requires g c = has_shape_true c.in_ok-rows.rows (rw c.in_ok-rows.ensures refl)
