use Rattle.fec_session.proofs.NullPairs.{null_pairs, places_are}
use Rattle.fec_session.proofs.laws.null_words_pair_with_null_sets.Goals as goal

pub returns-clause-pairs : goal.returns-clause-pairs
returns-clause-pairs c = null_pairs

pub returns-clause-places : goal.returns-clause-places
returns-clause-places c = places_are
