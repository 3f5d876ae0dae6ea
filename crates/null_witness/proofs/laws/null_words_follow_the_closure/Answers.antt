use Rattle.sparse_rows.proofs.Shape.{row_below}
use Rattle.sparse_rows.proofs.Sets.{rounds_hold}
use Rattle.null_witness.proofs.Subsets.{null_closure, null_subset}
use Rattle.null_witness.proofs.First.{first_is_one}
use Rattle.null_witness.proofs.laws.null_words_follow_the_closure.Goals as goal

pub returns-clause-closure : goal.returns-clause-closure
returns-clause-closure c m s word =
    (null_closure m s word, null_subset m s _ word (rounds_hold m m.n s))

pub returns-clause-subset : goal.returns-clause-subset
returns-clause-subset c m small large word h null = null_subset m small large word h null

pub returns-clause-first : goal.returns-clause-first
returns-clause-first c m s a b shape fa fb = first_is_one m s a b (row_below m shape) fa fb
