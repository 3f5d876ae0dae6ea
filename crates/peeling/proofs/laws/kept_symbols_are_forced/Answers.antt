use Rattle.peeling.proofs.Decided.{kept_of_codeword, kept_consistent}
use Rattle.peeling.proofs.laws.kept_symbols_are_forced.Goals as goal

pub returns-clause-codeword : goal.returns-clause-codeword
returns-clause-codeword c = kept_of_codeword

pub returns-clause-assignment : goal.returns-clause-assignment
returns-clause-assignment c = kept_consistent
