use Rattle.std.proofs.Common.{◌≡◌, ◌+◌, ◌-◌, ◌*◌, inl, inr, ℕ, ⊎_elim, length, ap, ◌∙◌, arith}
use Rattle.gauss.proofs.Words.{apart, put_outside}
use Rattle.gauss.proofs.values.store_part.Goals as goal

pub returns-clause-others : goal.returns-clause-others
returns-clause-others c q t ne lt =
    let n : ℕ = length c.args.part.now in
    let a : ℕ = c.args.p * c.args.len + c.args.start in
    let long : length c.copy_from_slice.new.self ≡ a + n - a =
    ap length c.copy_from_slice.ensures.after ∙ omega arith in
    put_outside c.args.values.now c.copy_from_slice.new.self a (a + n - a)
    (omega (arith, c.requires.values, c.requires.end)) long (q * c.args.len + t)
    (⊎_elim (λ low. inl (omega (arith, low))) (λ high. inr (omega (arith, high, c.requires.end)))
    (apart c.args.len q c.args.p t ne lt))
