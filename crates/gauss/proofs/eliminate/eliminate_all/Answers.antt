use Rattle.std.proofs.Common.{◌≡◌, ◌+◌, ◌*◌, ◌/◌, ◌<◌, ◌⊎◌, inl, inr, ℕ, length, sym, subst}
use Rattle.std.proofs.Common.{arith}
use Rattle.gauss.specs.Packed.{bits_of}
use Rattle.gauss.specs.Elimination.{IsStageIn}
use Rattle.gauss.proofs.eliminate.eliminate_all.Goals as goal

-- a group starts at a multiple of eight, or there is none left
next_start : (u start end : ℕ) → start < u → (start ≡ u) ⊎ ((g : ℕ) × (start ≡ 8 * g))
    → (end ≡ u) ⊎ (end ≡ start + 8) → (end ≡ u) ⊎ ((g : ℕ) × (end ≡ 8 * g))
next_start u start end lt (inl e) ends = absurd (omega (arith, e, lt))
next_start u start end lt (inr (g, e)) (inl f) = inl f
next_start u start end lt (inr (g, e)) (inr f) = inr (g + 1, omega (arith, e, f))

starts_group : (u start : ℕ) → start < u → (start ≡ u) ⊎ ((g : ℕ) × (start ≡ 8 * g))
    → (g : ℕ) × (start ≡ 8 * g)
starts_group u start lt (inl e) = absurd (omega (arith, e, lt))
starts_group u start lt (inr w) = w

pub loop-start-init : goal.loop-start-init
loop-start-init c = record {
  most = omega arith;
  group = inr (0, omega arith);
  stage = λ first h. h;
}

pub loop-start-preserved : goal.loop-start-preserved
loop-start-preserved c =
    let l = c.loop-start in
    let u : ℕ = length c.args.pivots.now in
    let w = c.eliminate_group.new in
    let low : l.start < u = omega (arith, c.loop-start-test.true) in
    let at_group = starts_group u l.start low l.invariant.group in
    let start : l.start ≡ l.start / 8 * 8 = omega (arith, at_group.1) in
    record {
      most = c.group_end-end.ensures.within;
      group = next_start u l.start c.group_end-end.result low l.invariant.group
          c.group_end-end.ensures.whole;
      stage = λ first h. subst (λ (m : ℕ). IsStageIn u m c.group_end-end.result first
          (bits_of c.args.width w.words) w.pivots w.leads) l.auto.leads
          ((rw (← start) at c.eliminate_group.ensures) first
          (subst (λ (m : ℕ). IsStageIn u m l.start first (bits_of c.args.width l.words)
          l.pivots l.leads) (sym l.auto.leads) (l.invariant.stage first h)));
    }

pub returns : goal.returns
returns c first h =
    let l = c.loop-start in
    let is : l.start ≡ length c.args.pivots.now =
    omega (arith, c.loop-start-test.false, l.auto.pivots, l.invariant.most) in
    subst (λ (i : ℕ). IsStageIn (length c.args.pivots.now) (length c.args.leads.now) i first
    (bits_of c.args.width l.words) l.pivots l.leads) is (l.invariant.stage first h)
