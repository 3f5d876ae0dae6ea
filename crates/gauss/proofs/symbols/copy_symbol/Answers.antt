use Rattle.std.proofs.Common.{◌≡◌, ◌+◌, ◌-◌, ◌*◌, ◌<◌, ◌≤◌, ◌++◌, ℕ, List, ⊎_elim, length, drop}
use Rattle.std.proofs.Common.{get_or, ap, ◌∙◌, arith}
use Rattle.std.proofs.lemmas.List.{get_or_append_left, get_or-append_right, get_or-take}
use Rattle.std.proofs.lemmas.List.{get_or-drop}
use Rattle.gauss.proofs.Words.{apart, part_length, part_of, row_room}
use Rattle.gauss.proofs.symbols.copy_symbol.Goals as goal

pub returns-clause-symbol : goal.returns-clause-symbol
returns-clause-symbol c t lt =
    let n : ℕ = c.args.len in
    let m : ℕ = c.args.to * n in
    let a : ℕ = c.args.from * n in
    let old : List ℕ = c.args.symbols.now in
    let front : List ℕ = c.split_at_mut-before.result.0.now in
    let back : List ℕ = c.split_at_mut-before.result.1.now in
    let copy : List ℕ = c.copy_from_slice.new.self in
    let low : a + n ≤ m = row_room c.args.to n c.args.from c.requires.from in
    let count : a + n - a ≡ n = omega arith in
    let long : length copy ≡ n = ap length c.copy_from_slice.ensures.after
    ∙ part_length front a (a + n - a) n count
    (omega (arith, low, c.split_at_mut-before.ensures.front_len)) in
    let place : m + t - m ≡ t = omega arith in
    get_or-append_right front (copy ++ drop n back) m (m + t) 0
    c.split_at_mut-before.ensures.front_len (omega arith)
    ∙ ap (λ i. get_or (copy ++ drop n back) i 0) place ∙ get_or_append_left copy (drop n back) 0 t
    (omega (arith, long, lt))
    ∙ ap (λ xs. get_or xs t 0) c.copy_from_slice.ensures.after ∙ part_of front a (a + n - a) n t
    count lt
    ∙ ap (λ xs. get_or xs (a + t) 0) c.split_at_mut-before.ensures.front
    ∙ get_or-take m old (a + t) 0 (omega (arith, low, lt))

pub returns-clause-others : goal.returns-clause-others
returns-clause-others c q t ne lt =
    let n : ℕ = c.args.len in
    let m : ℕ = c.args.to * n in
    let a : ℕ = c.args.from * n in
    let i : ℕ = q * n + t in
    let old : List ℕ = c.args.symbols.now in
    let front : List ℕ = c.split_at_mut-before.result.0.now in
    let back : List ℕ = c.split_at_mut-before.result.1.now in
    let copy : List ℕ = c.copy_from_slice.new.self in
    let low : a + n ≤ m = row_room c.args.to n c.args.from c.requires.from in
    let long : length copy ≡ n = ap length c.copy_from_slice.ensures.after
    ∙ part_length front a (a + n - a) n (omega arith)
    (omega (arith, low, c.split_at_mut-before.ensures.front_len)) in
    ⊎_elim
    (λ (before : i < m). get_or_append_left front (copy ++ drop n back) 0 i
    (omega (arith, before, c.split_at_mut-before.ensures.front_len))
    ∙ ap (λ xs. get_or xs i 0) c.split_at_mut-before.ensures.front ∙ get_or-take m old i 0 before)
    (λ (behind : m + n ≤ i).
    let place : m + (n + (i - m - n)) ≡ i = omega (arith, behind) in
    get_or-append_right front (copy ++ drop n back) m i 0 c.split_at_mut-before.ensures.front_len
    (omega (arith, behind))
    ∙ get_or-append_right copy (drop n back) n (i - m) 0 long (omega (arith, behind))
    ∙ get_or-drop n back (i - m - n) 0
    ∙ ap (λ xs. get_or xs (n + (i - m - n)) 0) c.split_at_mut-before.ensures.back
    ∙ get_or-drop m old (n + (i - m - n)) 0 ∙ ap (λ k. get_or old k 0) place)
    (apart n q c.args.to t ne lt)
