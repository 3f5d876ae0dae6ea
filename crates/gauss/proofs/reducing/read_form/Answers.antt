use Rattle.std.proofs.Common.{◌≡◌, ℕ, List, length, sym, ap, ◌∙◌, subst, subst₂, arith}
use Rattle.std.proofs.lemmas.List.FromFn.{length-map-range_with_len}
use Rattle.gauss.specs.Masks.{AreMasks, form_of}
use Rattle.gauss.specs.Equations.{System}
use Rattle.gauss.specs.Reduction.{IsReducedForm}
use Rattle.gauss.specs.Reductions.{IsReduction}
use Rattle.gauss.specs.declared.reducing.Reduction.TheVariants as answer
use Rattle.gauss.proofs.Form.{read_form}
use Rattle.gauss.proofs.Read.{read_clash, symbol_in}
use Rattle.gauss.proofs.reducing.read_form.Goals as goal

pub returns-then-any_clashes : goal.returns-then-any_clashes
returns-then-any_clashes c s done =
    let u : ℕ = length c.args.pivots.now in
    let r : ℕ = length c.args.leads.now in
    let n : length c.deref_mut.result.now ≡ c.args.len =
    omega (arith, c.deref_mut.ensures.len, c.in_ok-sum.ensures.len) in
    let w = rw (n, c.width_of-width.ensures) at (c.any_clashes.ensures.some c.if-any_clashes.true)
    in
    subst (λ (v : System). IsReduction v answer.Clash) done.system
    (read_clash u c.args.len r done.first c.args.words.now c.args.sums.now c.args.pivots.now
    c.args.leads.now done.before done.stage
    w.0 w.1 w.2 w.3 w.4 w.5)

pub new-requires : goal.new-requires
new-requires c =
    let w = c.in_ok-values.ensures in
    let masks = c.in_ok-masks.ensures in
    subst (λ n. AreMasks n c.in_ok-masks.masks.sets c.in_ok-masks.masks.bytes.items)
    (sym (ap length w.4 ∙ length-map-range_with_len (symbol_in c.args.len w.0) 0
    (length c.args.pivots.now))) masks.masks

pub returns : goal.returns
returns c s done =
    let u : ℕ = length c.args.pivots.now in
    let r : ℕ = length c.args.leads.now in
    let n : length c.deref_mut.result.now ≡ c.args.len =
    omega (arith, c.deref_mut.ensures.len, c.in_ok-sum.ensures.len) in
    let zero = rw (n, c.width_of-width.ensures) at
    (c.any_clashes.ensures.none c.if-any_clashes.false) in
    let w = rw c.width_of-width.ensures at c.in_ok-values.ensures in
    let masks = rw c.width_of-width.ensures at c.in_ok-masks.ensures in
    let sets : ℕ = c.in_ok-masks.masks.sets in
    let bytes : List ℕ = c.in_ok-masks.masks.bytes.items in
    subst₂ IsReducedForm done.system (sym (c.new.ensures ∙ ap (λ (v : List (List ℕ)). form_of v
    sets bytes) w.4))
    (read_form u c.args.len r done.first c.args.words.now c.args.sums.now c.args.pivots.now
    c.args.leads.now done.before
    c.requires.row_words done.stage zero w.0 w.1 w.2 w.3 sets bytes masks)
