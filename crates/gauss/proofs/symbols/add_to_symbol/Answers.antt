use Rattle.std.proofs.Common.{◌≡◌, ◌+◌, ◌-◌, ◌*◌, ℕ, List, length, take, drop, get_or, ap, ◌∙◌}
use Rattle.std.proofs.Common.{bit_xor, arith}
use Rattle.fec_base.proofs.SymbolBytes.{byte_xor, length_xor}
use Rattle.gauss.proofs.Words.{apart, part_length, part_of, put_inside, put_outside}
use Rattle.gauss.proofs.symbols.add_to_symbol.Goals as goal

pub returns-clause-symbol : goal.returns-clause-symbol
returns-clause-symbol c t lt =
    let n : ℕ = length c.args.other.now in
    let a : ℕ = c.args.c * n in
    let count : a + n - a ≡ n = omega arith in
    let part : List ℕ = take (a + n - a) (drop a c.args.symbols.now) in
    let same : length part ≡ n = part_length c.args.symbols.now a (a + n - a) n count c.requires in
    let long : length c.xor_into.new.dst ≡ a + n - a = ap length c.xor_into.ensures
    ∙ length_xor part c.args.other.now same ∙ omega (arith, same) in
    put_inside c.args.symbols.now c.xor_into.new.dst a (a + n - a) (omega (arith, c.requires)) long
    t (omega (arith, lt))
    ∙ ap (λ xs. get_or xs t 0) c.xor_into.ensures ∙ byte_xor part c.args.other.now same t
    ∙ ap (λ b. bit_xor b (get_or c.args.other.now t 0)) (part_of c.args.symbols.now a (a + n - a) n
    t count lt)

pub returns-clause-others : goal.returns-clause-others
returns-clause-others c q t ne lt =
    let n : ℕ = length c.args.other.now in
    let a : ℕ = c.args.c * n in
    let part : List ℕ = take (a + n - a) (drop a c.args.symbols.now) in
    let same : length part ≡ n = part_length c.args.symbols.now a (a + n - a) n (omega arith)
    c.requires in
    let long : length c.xor_into.new.dst ≡ a + n - a = ap length c.xor_into.ensures
    ∙ length_xor part c.args.other.now same ∙ omega (arith, same) in
    let where_is = apart n q c.args.c t ne lt in
    let count : a + (a + n - a) ≡ a + n = omega arith in
    put_outside c.args.symbols.now c.xor_into.new.dst a (a + n - a) (omega (arith, c.requires)) long
    (q * n + t) (rw count where_is)
