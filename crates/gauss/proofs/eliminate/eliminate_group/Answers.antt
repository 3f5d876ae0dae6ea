use mathlib.Core.Path.{fun_ext}
use Rattle.std.proofs.Common.{◌≡◌, ◌*◌, ℕ, length, refl, sym, subst, arith}
use Rattle.sparse_rows.specs.Closure.{Set}
use Rattle.gauss.specs.Packed.{bits_of}
use Rattle.gauss.specs.Table.{virtual_in}
use Rattle.gauss.specs.Elimination.{IsStageIn}
use Rattle.gauss.proofs.Stages.{more_stage}
use Rattle.gauss.proofs.Tabled.{none_zero, virtual_none}
use Rattle.gauss.proofs.eliminate.eliminate_group.Goals as goal

pub loop-unknown-init : goal.loop-unknown-init
loop-unknown-init c = record {
  zero = λ d. none_zero c.args.group.width c.clear.new.table d c.clear.ensures;
  stage = λ first h. subst (λ (f : ℕ → Set). IsStageIn c.args.group.unknowns
      (length c.args.leads.now) (c.args.group.number * 8) first f c.args.pivots.now
      c.args.leads.now) (sym (virtual_none c.args.group.unknowns c.args.group.width
      c.args.group.number c.args.words.now c.clear.new.table c.args.leads.now
      c.clear.ensures)) h;
}

pub loop-unknown-preserved : goal.loop-unknown-preserved
loop-unknown-preserved c =
    let u : ℕ = c.args.group.unknowns in
    let l = c.loop-unknown in
    let w = c.eliminate_unknown.new in
    record {
      zero = c.eliminate_unknown.ensures.zero;
      stage = λ first h. more_stage u (length c.args.leads.now) u (length l.leads) l.unknown first
          (virtual_in c.args.group l.words l.table l.leads)
          (virtual_in c.args.group w.words w.table w.leads) l.pivots l.leads w.pivots
          w.leads refl l.auto.leads (omega (
            arith,
            c.loop-unknown-test.true,
            l.auto.unknown-end,
            c.requires.end,
          )) (l.invariant.stage first h)
          c.eliminate_unknown.ensures.step;
    }

pub apply-requires-clause-group : goal.apply-requires-clause-group
apply-requires-clause-group c = omega (
  arith,
  c.requires.group.width,
  c.requires.some,
  c.requires.end,
)

pub returns : goal.returns
returns c first h =
    let u : ℕ = c.args.group.unknowns in
    let l = c.loop-unknown in
    let is : l.unknown ≡ c.args.end =
    omega (arith, c.loop-unknown-test.false, l.auto.unknown-end) in
    let now : bits_of c.args.group.width c.apply.new.words ≡ virtual_in c.args.group l.words
    l.table l.leads = fun_ext (λ j. fun_ext (λ d. c.apply.ensures j d)) in
    subst (λ (f : ℕ → Set). IsStageIn u (length c.args.leads.now) c.args.end first f l.pivots
    l.leads) (sym now)
    (subst (λ (i : ℕ). IsStageIn u (length c.args.leads.now) i first
    (virtual_in c.args.group l.words l.table l.leads) l.pivots l.leads) is
    (l.invariant.stage first h))
