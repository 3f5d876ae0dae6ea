use Rattle.fec_session.proofs.Fresh.{rebuilds}
use Rattle.fec_session.proofs.laws.rebuilt_symbols_are_forced.Goals as goal

pub returns : goal.returns
returns c = rebuilds c.kept_symbols_are_forced.ensures.codeword
    c.kept_symbols_are_forced.ensures.assignment
