use Rattle.std.proofs.Common.{◌≡◌, Bool, true, List, set, sym, ap, ◌∙◌}
use Rattle.peeling.specs.Decoder.{kept}
use Rattle.peeling.specs.Lookups.{set_count}
use Rattle.peeling.proofs.Laid.{bytes_small}
use Rattle.peeling.proofs.Stored.{stored_room, stored_symbol, repeat_stored, repeat_receives}
use Rattle.peeling.proofs.peeler.Peeler.take_repeat.Goals as goal

pub get-requires : goal.get-requires
get-requires c = stored_room c.self.inside c.self.invariant c.args.self.now c.self.view_is c.args.e
    c.requires.position

pub invariant_of-self : goal.invariant_of-self
invariant_of-self c =
    repeat_stored c.self.inside c.self.invariant c.args.self.now c.self.view_is c.args.e
    c.args.bytes.now c.requires.position c.requires.length
    (bytes_small c.args.bytes.now c.type_inv.bytes) c.requires.known
    c.is_same-same.result c.get.result.now c.get.ensures c.is_same-same.ensures c.clear.new.self
    c.clear.ensures.items c.clear.ensures.capacity c.with_flag-count.result
    (c.with_flag-count.ensures ∙ ap (λ (flags : List Bool). set_count (set flags c.args.e true))
    c.deref.ensures.value)

pub returns-clause-same : goal.returns-clause-same
returns-clause-same c =
    let found : c.get.result.now ≡ kept c.args.self.now c.args.e = c.get.ensures
    ∙ stored_symbol c.self.inside c.self.invariant c.args.self.now c.self.view_is c.args.e
    c.requires.position in
    (λ same. c.is_same-same.ensures.0 same ∙ found, λ is. c.is_same-same.ensures.1 (is ∙ sym found))

pub returns-clause-received : goal.returns-clause-received
returns-clause-received c =
    repeat_receives c.self.inside c.self.invariant c.args.self.now c.self.view_is c.args.e
    c.args.bytes.now c.requires.position c.requires.length
    (bytes_small c.args.bytes.now c.type_inv.bytes) c.requires.known
    c.is_same-same.result c.get.result.now c.get.ensures c.is_same-same.ensures c.clear.new.self
    c.clear.ensures.items c.clear.ensures.capacity c.with_flag-count.result
    (c.with_flag-count.ensures ∙ ap (λ (flags : List Bool). set_count (set flags c.args.e true))
    c.deref.ensures.value)
