use Rattle.gauss.proofs.Unique.{answer_is_one, free_has_two}
use Rattle.gauss.proofs.laws.a_system_has_one_answer.Goals as goal

pub returns-clause-one : goal.returns-clause-one
returns-clause-one c s a b ok some is_a is_b = answer_is_one s a b ok some is_a is_b

pub returns-clause-free : goal.returns-clause-free
returns-clause-free c s set ok some is = free_has_two s set some is
