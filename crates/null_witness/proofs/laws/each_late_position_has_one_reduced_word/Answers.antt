use Rattle.sparse_rows.specs.NullWord.{IsNullWord}
use Rattle.null_witness.proofs.ReducedWords.{reduced_is_one, reduced_of}
use Rattle.null_witness.proofs.NullWords.{null_decided, null_linear}
use Rattle.null_witness.proofs.laws.each_late_position_has_one_reduced_word.Goals as goal

pub returns-clause-some : goal.returns-clause-some
returns-clause-some c m s position late = reduced_of (IsNullWord m s) (null_linear m s)
    (null_decided m s) position late

pub returns-clause-one : goal.returns-clause-one
returns-clause-one c m s a b ra rb same = reduced_is_one (IsNullWord m s) (null_linear m s) a b ra
    rb same
