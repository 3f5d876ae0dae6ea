use Rattle.std.proofs.Common.{subst}
use Rattle.peeling.specs.Decoder.{IsDecoder}
use Rattle.peeling.proofs.Stored.{stored_is}
use Rattle.peeling.proofs.peeler.Peeler.code.Goals as goal

pub returns-clause-decoder : goal.returns-clause-decoder
returns-clause-decoder c = subst IsDecoder c.self.view_is (stored_is c.self.inside c.self.invariant)
