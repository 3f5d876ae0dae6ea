use Rattle.std.proofs.Common.{refl}
use Rattle.sparse_rows.proofs.Tested.{has_shape_true}
use Rattle.code_tests.proofs.matrices.a_code_has_rising_rows.Goals as goal

pub from_builder-requires : goal.from_builder-requires
from_builder-requires g c = has_shape_true c.in_ok-filled.field-0 (rw c.in_ok-filled.ensures refl)
