use Rattle.std.proofs.Common.{◌∙◌}
use Rattle.peeling.proofs.Stored.{stored_room, stored_symbol}
use Rattle.peeling.proofs.peeler.Peeler.symbol.Goals as goal

pub get-requires : goal.get-requires
get-requires c = stored_room c.self.inside c.self.invariant c.args.self.now c.self.view_is c.args.e
    c.requires

pub returns-then-index-clause-value : goal.returns-then-index-clause-value
returns-then-index-clause-value c = c.get.ensures ∙ stored_symbol c.self.inside c.self.invariant
    c.args.self.now c.self.view_is c.args.e c.requires
