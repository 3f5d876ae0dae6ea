use Rattle.std.proofs.Common.{◌≡◌, ℕ, length, sym, subst, subst₂, arith}
use Rattle.gauss.specs.Answer.{IsAnswer}
use Rattle.gauss.specs.Equations.{System}
use Rattle.gauss.specs.declared.answer.Answer.TheVariants as answer
use Rattle.gauss.proofs.Read.{read_clash, read_free, read_one}
use Rattle.gauss.proofs.solving.read_answer.Goals as goal

pub returns-then-any_clashes : goal.returns-then-any_clashes
returns-then-any_clashes c s done =
    let u : ℕ = length c.args.pivots.now in
    let r : ℕ = length c.args.leads.now in
    let n : length c.deref_mut.result.now ≡ c.args.len =
    omega (arith, c.deref_mut.ensures.len, c.in_ok-sum.ensures.len) in
    let w = rw (n, c.width_of-width.ensures) at (c.any_clashes.ensures.some c.if-any_clashes.true)
    in
    subst (λ (v : System). IsAnswer v answer.Clash) done.system
    (read_clash u c.args.len r done.first c.args.words.now c.args.sums.now c.args.pivots.now
    c.args.leads.now done.before done.stage
    w.0 w.1 w.2 w.3 w.4 w.5)

pub returns-in-Some : goal.returns-in-Some
returns-in-Some c s done =
    let u : ℕ = length c.args.pivots.now in
    let r : ℕ = length c.args.leads.now in
    let n : length c.deref_mut.result.now ≡ c.args.len =
    omega (arith, c.deref_mut.ensures.len, c.in_ok-sum.ensures.len) in
    let zero = rw (n, c.width_of-width.ensures) at
    (c.any_clashes.ensures.none c.if-any_clashes.false) in
    let w = rw c.width_of-width.ensures at c.in_ok-null_set.ensures in
    subst₂ (λ (v : System) set. IsAnswer v (answer.Free set)) done.system (sym w.2)
    (read_free u c.args.len r done.first c.args.words.now c.args.sums.now c.args.pivots.now
    c.args.leads.now done.before done.stage
    zero c.in-Some.free c.in-Some.ensures w.0 w.1)

pub returns : goal.returns
returns c s done =
    let u : ℕ = length c.args.pivots.now in
    let r : ℕ = length c.args.leads.now in
    let n : length c.deref_mut.result.now ≡ c.args.len =
    omega (arith, c.deref_mut.ensures.len, c.in_ok-sum.ensures.len) in
    let zero = rw (n, c.width_of-width.ensures) at
    (c.any_clashes.ensures.none c.if-any_clashes.false) in
    let w = rw c.width_of-width.ensures at c.in_ok-values.ensures in
    subst₂ (λ (v : System) values. IsAnswer v (answer.One values)) done.system (sym w.4)
    (read_one u c.args.len r done.first c.args.words.now c.args.sums.now c.args.pivots.now
    c.args.leads.now done.before done.stage
    zero w.0 w.1 w.2 w.3 c.in_default.ensures)
