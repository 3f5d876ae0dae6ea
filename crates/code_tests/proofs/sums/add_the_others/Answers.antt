use Rattle.std.proofs.Common.{◌+◌, ◌*◌, ◌≤◌, ℕ, [], ◌∷◌, length, arith}
use Rattle.std.proofs.lemmas.List.Elements.{All-nil, All-cons}
use Rattle.code_tests.proofs.sums.add_the_others.Goals as goal

pub add_columns-requires-clause-each : goal.add_columns-requires-clause-each
add_columns-requires-clause-each c =
    let Fits = λ (s : ℕ). s * 96 + 96 ≤ length c.args.all.now in
    let last : Fits 2 = omega (arith, c.requires) in
    All-cons Fits 0 (2 ∷ 2 ∷ []) (omega (arith, c.requires))
    (All-cons Fits 2 (2 ∷ []) last (All-cons Fits 2 [] last (All-nil Fits)))
