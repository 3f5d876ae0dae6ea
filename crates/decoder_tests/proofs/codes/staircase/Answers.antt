use Rattle.std.proofs.Common.{refl}
use Rattle.sparse_rows.proofs.Tested.{has_shape_true}
use Rattle.decoder_tests.proofs.codes.staircase.Goals as goal

pub code_of-requires-clause-shape : goal.code_of-requires-clause-shape
code_of-requires-clause-shape c = has_shape_true _ refl
