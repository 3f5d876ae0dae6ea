use Rattle.std.proofs.Common.{◌+◌, Bool, true, List, set, refl, ap, ◌∙◌, arith}
use Rattle.peeling.specs.Lookups.{set_count}
use Rattle.peeling.proofs.Laid.{bytes_small}
use Rattle.peeling.proofs.Stored.{ready_unknown, ready_laid, ready_counted, ready_rests, new_stored}
use Rattle.peeling.proofs.Stored.{new_receives, new_steps}
use Rattle.peeling.proofs.peeler.Peeler.take_new.Goals as goal

pub peel-holds-requires-clause-unknown : goal.peel-holds-requires-clause-unknown
peel-holds-requires-clause-unknown g c = ready_unknown c.self.inside c.self.invariant
    c.args.self.now c.self.view_is c.args.e c.args.bytes.now c.requires.position c.requires.length
    (bytes_small c.args.bytes.now c.type_inv.bytes) c.requires.unknown
    c.as_mut_slice-known.result.now c.self.inside.store.symbols c.as_mut_slice-rows.result.now
    c.as_mut_slice-known.ensures.value refl c.as_mut_slice-rows.ensures.value

pub peel-holds-requires-clause-laid : goal.peel-holds-requires-clause-laid
peel-holds-requires-clause-laid g c = ready_laid c.self.inside c.self.invariant c.args.self.now
    c.self.view_is c.args.e c.args.bytes.now c.requires.position c.requires.length
    (bytes_small c.args.bytes.now c.type_inv.bytes) c.requires.unknown
    c.as_mut_slice-known.result.now c.self.inside.store.symbols c.as_mut_slice-rows.result.now
    c.as_mut_slice-known.ensures.value refl c.as_mut_slice-rows.ensures.value

pub peel-holds-requires-clause-counted : goal.peel-holds-requires-clause-counted
peel-holds-requires-clause-counted g c = ready_counted c.self.inside c.self.invariant
    c.args.self.now c.self.view_is c.args.e c.args.bytes.now c.requires.position c.requires.length
    (bytes_small c.args.bytes.now c.type_inv.bytes) c.requires.unknown
    c.as_mut_slice-known.result.now c.self.inside.store.symbols c.as_mut_slice-rows.result.now
    c.as_mut_slice-known.ensures.value refl c.as_mut_slice-rows.ensures.value

pub peel-holds-requires-clause-rests : goal.peel-holds-requires-clause-rests
peel-holds-requires-clause-rests g c = ready_rests c.self.inside c.self.invariant c.args.self.now
    c.self.view_is c.args.e c.args.bytes.now c.requires.position c.requires.length
    (bytes_small c.args.bytes.now c.type_inv.bytes) c.requires.unknown
    c.as_mut_slice-known.result.now c.self.inside.store.symbols c.as_mut_slice-rows.result.now
    c.as_mut_slice-known.ensures.value refl c.as_mut_slice-rows.ensures.value

pub invariant_of-self : goal.invariant_of-self
invariant_of-self g c = new_stored c.self.inside c.self.invariant c.args.self.now c.self.view_is
    c.args.e c.args.bytes.now c.requires.position c.requires.length
    (bytes_small c.args.bytes.now c.type_inv.bytes) c.requires.unknown
    c.as_mut_slice-known.result.now c.self.inside.store.symbols c.as_mut_slice-rows.result.now
    c.as_mut_slice-known.ensures.value refl c.as_mut_slice-rows.ensures.value
    c.peel-holds.new.known c.peel-holds.new.symbols c.peel-holds.ensures.laid
    c.peel-holds.ensures.peeled c.peel-holds.ensures.rests c.peel-holds.result
    c.peel-holds.ensures.holds c.peel-holds.new.rows c.peel-holds.ensures.counted
    c.peel-holds.auto.rows c.peel-holds.new.fresh c.peel-holds.ensures.fresh
    c.peel-holds.ensures.room c.with_flag-count.result (c.with_flag-count.ensures
    ∙ ap (λ (flags : List Bool). set_count (set flags c.args.e true)) c.deref.ensures.value)
    (c.self.inside.known_count + (1 + c.len.result))
    (omega (
      arith,
      c.peel-holds.ensures.count,
      ap set_count c.as_mut_slice-known.ensures.value,
      c.self.invariant.known_count,
      c.len.ensures,
      c.peel-holds.new.fresh.ok.0,
    ))

pub returns-clause-received : goal.returns-clause-received
returns-clause-received g c = new_receives c.self.inside c.self.invariant c.args.self.now
    c.self.view_is c.args.e c.args.bytes.now c.requires.position c.requires.length
    (bytes_small c.args.bytes.now c.type_inv.bytes) c.requires.unknown
    c.as_mut_slice-known.result.now c.self.inside.store.symbols c.as_mut_slice-rows.result.now
    c.as_mut_slice-known.ensures.value refl c.as_mut_slice-rows.ensures.value
    c.peel-holds.new.known c.peel-holds.new.symbols c.peel-holds.ensures.laid
    c.peel-holds.ensures.peeled c.peel-holds.ensures.rests c.peel-holds.result
    c.peel-holds.ensures.holds c.peel-holds.new.rows c.peel-holds.ensures.counted
    c.peel-holds.auto.rows c.peel-holds.new.fresh c.peel-holds.ensures.fresh
    c.peel-holds.ensures.room c.with_flag-count.result (c.with_flag-count.ensures
    ∙ ap (λ (flags : List Bool). set_count (set flags c.args.e true)) c.deref.ensures.value)
    (c.self.inside.known_count + (1 + c.len.result))
    (omega (
      arith,
      c.peel-holds.ensures.count,
      ap set_count c.as_mut_slice-known.ensures.value,
      c.self.invariant.known_count,
      c.len.ensures,
      c.peel-holds.new.fresh.ok.0,
    ))

pub returns-clause-cost : goal.returns-clause-cost
returns-clause-cost g c = new_steps c.self.inside c.self.invariant c.args.self.now c.self.view_is
    c.args.e c.args.bytes.now c.requires.position c.requires.length
    (bytes_small c.args.bytes.now c.type_inv.bytes) c.requires.unknown
    c.as_mut_slice-known.result.now c.self.inside.store.symbols c.as_mut_slice-rows.result.now
    c.as_mut_slice-known.ensures.value refl c.as_mut_slice-rows.ensures.value
    c.peel-holds.new.known c.peel-holds.new.symbols c.peel-holds.ensures.laid
    c.peel-holds.ensures.peeled c.peel-holds.ensures.rests c.peel-holds.result
    c.peel-holds.ensures.holds c.peel-holds.new.rows c.peel-holds.ensures.counted
    c.peel-holds.auto.rows c.peel-holds.new.fresh c.peel-holds.ensures.fresh
    c.peel-holds.ensures.room c.with_flag-count.result (c.with_flag-count.ensures
    ∙ ap (λ (flags : List Bool). set_count (set flags c.args.e true)) c.deref.ensures.value)
    (c.self.inside.known_count + (1 + c.len.result))
    (omega (
      arith,
      c.peel-holds.ensures.count,
      ap set_count c.as_mut_slice-known.ensures.value,
      c.self.invariant.known_count,
      c.len.ensures,
      c.peel-holds.new.fresh.ok.0,
    )) c.args.steps.now
    c.peel-holds.new.steps c.peel-holds.ensures.steps
