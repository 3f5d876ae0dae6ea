use Rattle.fec_session.proofs.Pairs.{pairs}
use Rattle.fec_session.proofs.laws.codewords_pair_with_solutions.Goals as goal

pub returns : goal.returns
returns c = pairs
