use Rattle.std.proofs.Common.{◌≡◌, ◌↔◌, subst, sym, ◌∙◌, eqb-true, eq-eqb}
use Rattle.peeling.specs.Decoder.{Decoder}
use Rattle.peeling.specs.Lookups.{HasAllSource}
use Rattle.peeling.proofs.Stored.{stored_full}
use Rattle.peeling.proofs.peeler.Peeler.has_all_source.Goals as goal

pub returns : goal.returns
returns c =
    let p = c.self.inside in
    let full : (p.known_count ≡ p.code.n) ↔ HasAllSource c.args.self.now =
    subst (λ (d : Decoder). (p.known_count ≡ p.code.n) ↔ HasAllSource d) c.self.view_is
    (stored_full p c.self.invariant) in (
      λ t. full.0 (eqb-true p.known_count c.n.result t ∙ c.n.ensures.value),
      λ all. eq-eqb p.known_count c.n.result (full.1 all ∙ sym c.n.ensures.value),
    )
