use Rattle.std.proofs.Common.{◌≡◌, ℕ, List, length, sym, subst, subst₂, arith}
use Rattle.gauss.specs.Equations.{System, IsSolution}
use Rattle.gauss.specs.Freedom.{AreFree, IsFreedom}
use Rattle.gauss.specs.declared.freedom.FreeUnknowns.TheVariants as answer
use Rattle.gauss.proofs.FreeLasts.{read_free_unknowns}
use Rattle.gauss.proofs.Read.{read_clash, read_some}
use Rattle.gauss.proofs.freedom.read_free.Goals as goal

pub returns-then-any_clashes : goal.returns-then-any_clashes
returns-then-any_clashes c s done =
    let u : ℕ = length c.args.pivots.now in
    let r : ℕ = length c.args.leads.now in
    let n : length c.deref_mut.result.now ≡ c.args.len =
    omega (arith, c.deref_mut.ensures.len, c.in_ok-sum.ensures.len) in
    let w = rw (n, c.width_of-width.ensures) at (c.any_clashes.ensures.some c.if-any_clashes.true)
    in
    subst (λ (v : System). IsFreedom v answer.Clash) done.system
    (read_clash u c.args.len r done.first c.args.words.now c.args.sums.now c.args.pivots.now
    c.args.leads.now done.before done.stage
    w.0 w.1 w.2 w.3 w.4 w.5)

pub returns : goal.returns
returns c s done =
    let u : ℕ = length c.args.pivots.now in
    let r : ℕ = length c.args.leads.now in
    let n : length c.deref_mut.result.now ≡ c.args.len =
    omega (arith, c.deref_mut.ensures.len, c.in_ok-sum.ensures.len) in
    let zero = rw (n, c.width_of-width.ensures) at
    (c.any_clashes.ensures.none c.if-any_clashes.false) in
    subst₂ (λ (v : System) (free : List ℕ). ((x : ℕ → List ℕ) × IsSolution v x) × AreFree v free)
    done.system (sym c.in_ok-free.ensures) (
      read_some u c.args.len r done.first c.args.words.now c.args.sums.now c.args.pivots.now
          c.args.leads.now done.before done.stage zero,
      read_free_unknowns u c.args.len r done.first c.args.words.now c.args.sums.now
          c.args.pivots.now c.args.leads.now done.before c.requires.row_words done.stage,
    )
