use Rattle.std.proofs.Common.{◌≡◌, ◌+◌, ◌-◌, ◌*◌, ℕ, length, get_or, ap, ◌∙◌, arith}
use Rattle.gauss.proofs.Words.{put_inside, put_outside, apart}
use Rattle.gauss.proofs.symbols.store_symbol.Goals as goal

pub returns-clause-symbol : goal.returns-clause-symbol
returns-clause-symbol c t lt =
    let n : ℕ = length c.args.symbol.now in
    let a : ℕ = c.args.c * n in
    let long : length c.copy_from_slice.new.self ≡ a + n - a =
    ap length c.copy_from_slice.ensures.after ∙ omega arith in
    put_inside c.args.symbols.now c.copy_from_slice.new.self a (a + n - a)
    (omega (arith, c.requires)) long t (omega arith)
    ∙ ap (λ xs. get_or xs t 0) c.copy_from_slice.ensures.after

pub returns-clause-others : goal.returns-clause-others
returns-clause-others c q t ne lt =
    let n : ℕ = length c.args.symbol.now in
    let a : ℕ = c.args.c * n in
    let long : length c.copy_from_slice.new.self ≡ a + n - a =
    ap length c.copy_from_slice.ensures.after ∙ omega arith in
    let where_is = apart n q c.args.c t ne lt in
    let count : a + (a + n - a) ≡ a + n = omega arith in
    put_outside c.args.symbols.now c.copy_from_slice.new.self a (a + n - a)
    (omega (arith, c.requires)) long (q * n + t) (rw count where_is)
