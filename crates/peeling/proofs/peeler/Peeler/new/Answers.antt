use Rattle.peeling.proofs.Stored.{blank_stored, blank_stands}
use Rattle.peeling.proofs.peeler.Peeler.new.Goals as goal

pub invariant_of-result : goal.invariant_of-result
invariant_of-result c = blank_stored c.args.code c.empty_store.ensures.code c.args.len
    c.requires.some c.requires.most c.in-Ok.store c.in-Ok.ensures.blank

pub returns-in-Ok-clause-stands : goal.returns-in-Ok-clause-stands
returns-in-Ok-clause-stands c = blank_stands c.args.code c.empty_store.ensures.code c.args.len
    c.requires.some c.requires.most c.in-Ok.store c.in-Ok.ensures.blank
