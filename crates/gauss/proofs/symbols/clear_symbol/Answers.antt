use Rattle.std.proofs.Common.{◌≡◌, ◌+◌, ◌-◌, ◌*◌, ℕ, length, ◌∙◌, arith}
use Rattle.gauss.proofs.Words.{apart, part_length, put_outside}
use Rattle.gauss.proofs.symbols.clear_symbol.Goals as goal

pub returns-clause-others : goal.returns-clause-others
returns-clause-others c q t ne lt =
    let n : ℕ = c.args.len in
    let a : ℕ = c.args.c * n in
    let same = part_length c.args.symbols.now a (a + n - a) n (omega arith) c.requires in
    let long : length c.fill.new.self ≡ a + n - a = c.fill.auto.self ∙ same ∙ omega arith in
    let count : a + (a + n - a) ≡ a + n = omega arith in
    put_outside c.args.symbols.now c.fill.new.self a (a + n - a) (omega (arith, c.requires)) long
    (q * n + t) (rw count (apart n q c.args.c t ne lt))
