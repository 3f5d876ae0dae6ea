use Rattle.peeling.proofs.Determined.{symbols_agree}
use Rattle.peeling.proofs.laws.closure_is_determined.Goals as goal

pub returns : goal.returns
returns c = symbols_agree
