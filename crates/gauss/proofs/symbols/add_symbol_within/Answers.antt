use Rattle.std.proofs.Common.{◌≡◌, ◌+◌, ◌-◌, ◌*◌, ◌<◌, ◌≤◌, ℕ, List, ⊎_elim, length, take, get_or}
use Rattle.std.proofs.Common.{ap, ap₂, ◌∙◌, subst, bit_xor, arith}
use Rattle.std.proofs.lemmas.Bool.{cases_lt}
use Rattle.std.proofs.lemmas.List.{get_or_append_left, get_or-append_right, get_or-take}
use Rattle.std.proofs.lemmas.List.{get_or-drop, length-take-le}
use Rattle.gauss.specs.Packed.{byte_in}
use Rattle.gauss.proofs.Words.{row_room}
use Rattle.gauss.proofs.symbols.add_symbol_within.Goals as goal

pub returns-clause-symbol : goal.returns-clause-symbol
returns-clause-symbol c t lt =
    let n : ℕ = c.args.len in
    let m : ℕ = c.args.c * n in
    let a : ℕ = c.args.p * n in
    let old : List ℕ = c.args.symbols.now in
    let front : List ℕ = c.split_at_mut-before.result.0.now in
    let back : List ℕ = c.split_at_mut-before.result.1.now in
    let now : List ℕ = c.add_to_symbol.new.symbols in
    let low : a + n ≤ m = row_room c.args.c n c.args.p c.requires.p in
    let long : length (take n back) ≡ n =
    length-take-le n back (omega (arith, c.split_at_mut-before.ensures.back_len, c.requires.c))
    in
    let front_long : length now ≡ m =
    omega (arith, c.add_to_symbol.auto.symbols, c.split_at_mut-before.ensures.front_len) in
    let sum : byte_in n now t c.args.p ≡ bit_xor (byte_in n front t c.args.p)
    (get_or (take n back) t 0) =
    subst (λ k. byte_in k now t c.args.p ≡ bit_xor (byte_in k front t c.args.p)
    (get_or (take n back) t 0)) long
    (c.add_to_symbol.ensures.symbol t (omega (arith, long, lt))) in
    get_or_append_left now back 0 (a + t) (omega (arith, front_long, low, lt)) ∙ sum
    ∙ ap₂ bit_xor (ap (λ xs. get_or xs (a + t) 0) c.split_at_mut-before.ensures.front
    ∙ get_or-take m old (a + t) 0 (omega (arith, low, lt)))
    (get_or-take n back t 0 lt ∙ ap (λ xs. get_or xs t 0) c.split_at_mut-before.ensures.back
    ∙ get_or-drop m old t 0)

pub returns-clause-others : goal.returns-clause-others
returns-clause-others c q t ne lt =
    let n : ℕ = c.args.len in
    let m : ℕ = c.args.c * n in
    let i : ℕ = q * n + t in
    let old : List ℕ = c.args.symbols.now in
    let front : List ℕ = c.split_at_mut-before.result.0.now in
    let back : List ℕ = c.split_at_mut-before.result.1.now in
    let now : List ℕ = c.add_to_symbol.new.symbols in
    let long : length (take n back) ≡ n =
    length-take-le n back (omega (arith, c.split_at_mut-before.ensures.back_len, c.requires.c))
    in
    let front_long : length now ≡ m =
    omega (arith, c.add_to_symbol.auto.symbols, c.split_at_mut-before.ensures.front_len) in
    let kept : byte_in n now t q ≡ byte_in n front t q =
    subst (λ k. byte_in k now t q ≡ byte_in k front t q) long
    (c.add_to_symbol.ensures.others q t ne (omega (arith, long, lt))) in
    ⊎_elim
    (λ (before : i < m). get_or_append_left now back 0 i (omega (arith, front_long, before)) ∙ kept
    ∙ ap (λ xs. get_or xs i 0) c.split_at_mut-before.ensures.front
    ∙ get_or-take m old i 0 before)
    (λ (behind : m ≤ i).
    let place : m + (i - m) ≡ i = omega (arith, behind) in
    get_or-append_right now back m i 0 front_long behind ∙ ap (λ xs. get_or xs (i - m) 0)
    c.split_at_mut-before.ensures.back ∙ get_or-drop m old (i - m) 0
    ∙ ap (λ k. get_or old k 0) place)
    (cases_lt i m)
