use Rattle.std.proofs.Common.{refl}
use Rattle.sparse_rows.proofs.Tested.{has_shape_true}
use Rattle.decoder_tests.proofs.encoders.without_rows_the_codeword_is_the_source.Goals as goal

pub code_of-requires-clause-shape : goal.code_of-requires-clause-shape
code_of-requires-clause-shape g c = has_shape_true _ refl
