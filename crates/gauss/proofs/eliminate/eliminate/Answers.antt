use Rattle.std.proofs.Common.{ℕ, List, length, drop, sym, ◌∙◌, subst₂, arith}
use Rattle.std.proofs.lemmas.List.{take_at}
use Rattle.gauss.specs.Packed.{bits_of, width_of}
use Rattle.gauss.specs.Elimination.{IsStageIn}
use Rattle.gauss.proofs.Stages.{all_worked}
use Rattle.gauss.proofs.eliminate.eliminate.Goals as goal

pub returns : goal.returns
returns c =
    let u : ℕ = c.args.unknowns in
    let r : ℕ = c.args.rows in
    let pivots_are = take_at c.eliminate_all.new.pivots (drop (length c.eliminate_all.new.pivots)
    c.in_ok-pivots.pivots.items) c.in_ok-pivots.pivots.len
    (omega (arith, c.eliminate_all.auto.pivots, c.deref_mut.ensures.len)) in
    let leads_are = take_at c.eliminate_all.new.leads (drop (length c.eliminate_all.new.leads)
    c.in_ok-leads.leads.items) c.in_ok-leads.leads.len
    (omega (arith, c.eliminate_all.auto.leads, c.deref_mut-2.ensures.len)) in
    subst₂ (λ (ps ls : List ℕ). IsStageIn u r u (bits_of (width_of u) c.args.words.now)
    (bits_of (width_of u) c.eliminate_all.new.words) ps ls) (sym pivots_are) (sym leads_are)
    (all_worked u r (bits_of (width_of u) c.args.words.now)
    (bits_of (width_of u) c.eliminate_all.new.words) c.deref_mut.result.now
    c.deref_mut-2.result.now c.eliminate_all.new.pivots c.eliminate_all.new.leads
    (c.deref_mut.ensures.value ∙ c.in_ok-pivots.ensures.items_if_clones_equal (λ y e. e))
    (c.deref_mut-2.ensures.value ∙ c.in_ok-leads.ensures.items_if_clones_equal (λ y e. e))
    (rw c.width_of-2.ensures at c.eliminate_all.ensures))
