use Rattle.std.proofs.Common.{◌≡◌, ℕ, List, length, drop, sym, ap, ◌∙◌, subst, subst₂, arith}
use Rattle.std.proofs.lemmas.List.{take_at}
use Rattle.gauss.specs.Echelon.{IsEliminated}
use Rattle.gauss.specs.Equations.{System}
use Rattle.gauss.specs.Packed.{IsPacked, packed_system}
use Rattle.gauss.proofs.Read.{eliminated_from}
use Rattle.gauss.proofs.eliminated.after_elimination.Goals as goal

pub returns : goal.returns
returns c =
    let i = c.eqs.inside in
    let new : List ℕ = c.eliminate.new.words in
    let first : List ℕ = c.deref_mut.result.now in
    let first_is : first ≡ i.words.items = c.deref_mut.ensures.value in
    let long : length new ≡ i.words.len =
    omega (arith, c.eliminate.auto.words, c.deref_mut.ensures.len) in
    let rows : List ℕ = c.in_ok-pivots.pivots.rows.items in
    let leads : List ℕ = c.in_ok-pivots.pivots.leads.items in
    subst₂ (λ (s : System) (ws : List ℕ). IsEliminated s i.len ws rows leads i.sums)
    (ap (λ ws. packed_system i.unknowns i.len i.rows ws i.sums) first_is ∙ c.eqs.view_is)
    (sym (take_at new (drop (length new) i.words.items) i.words.len long))
    (eliminated_from i.unknowns i.len i.rows first new rows leads i.sums
    (subst (λ ws. IsPacked i.unknowns i.len i.rows ws i.sums) (sym first_is) c.eqs.invariant)
    c.eliminate.auto.words c.in_ok-pivots.ensures)
