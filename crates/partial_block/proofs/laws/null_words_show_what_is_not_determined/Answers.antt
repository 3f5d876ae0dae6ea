use Rattle.std.proofs.Common.{◌≡◌, true}
use Rattle.sparse_rows.specs.Matrix.{is_in}
use Rattle.sparse_rows.specs.NullWord.{IsNullWord}
use Rattle.null_witness.proofs.NullWords.{null_linear}
use Rattle.null_witness.proofs.ReducedWords.{first_reduced_is_one}
use Rattle.partial_block.proofs.NullWords.{determined_none, none_determined, through_of}
use Rattle.partial_block.proofs.laws.null_words_show_what_is_not_determined.Goals as goal

pub returns-clause-through : goal.returns-clause-through
returns-clause-through c m s e =
    (λ r. through_of m s e r.0 r.1 r.2, λ r. (r.0, r.1.reduced.one, r.1.of_kind))

pub returns-clause-one : goal.returns-clause-one
returns-clause-one c m s e a b ha hb = first_reduced_is_one (IsNullWord m s) (null_linear m s)
    (λ w. is_in w e ≡ true) a b ha hb

pub returns-clause-determined : goal.returns-clause-determined
returns-clause-determined c m len arrivals fitting e shape some fits = (
  determined_none m shape len arrivals fitting fits e some,
  none_determined m shape len arrivals fitting fits e,
)
