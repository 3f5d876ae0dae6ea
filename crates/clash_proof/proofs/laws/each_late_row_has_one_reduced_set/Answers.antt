use Rattle.null_witness.proofs.ReducedWords.{reduced_is_one, reduced_of}
use Rattle.clash_proof.specs.RowSets.{IsClosed}
use Rattle.clash_proof.proofs.Closed.{closed_decided, closed_linear}
use Rattle.clash_proof.proofs.laws.each_late_row_has_one_reduced_set.Goals as goal

pub returns-clause-some : goal.returns-clause-some
returns-clause-some c m s row late =
    reduced_of (IsClosed m s) (closed_linear m s) (closed_decided m s) row late

pub returns-clause-one : goal.returns-clause-one
returns-clause-one c m s a b ra rb same =
    reduced_is_one (IsClosed m s) (closed_linear m s) a b ra rb same
