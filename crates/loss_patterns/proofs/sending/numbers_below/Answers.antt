use Rattle.std.proofs.Common.{ℕ, ap, sym, ◌∙◌, ◌+◌, ◌≡◌, ◌++◌, ◌∷◌, [], length, arith}
use Rattle.std.specs.List.{range_with_len}
use Rattle.std.proofs.lemmas.List.FromFn.{length-range_with_len}
use Rattle.loss_patterns.proofs.Ranges.{range_more}
use Rattle.loss_patterns.proofs.sending.numbers_below.Goals as goal

pub returns-clause-counted : goal.returns-clause-counted
returns-clause-counted c =
    let last : c.loop-number.number ≡ c.args.n = omega (arith, c.loop-number-test.false) in
    ap length c.loop-number.invariant ∙ (length-range_with_len 0 c.loop-number.number ∙ last)

pub loop-number-preserved : goal.loop-number-preserved
loop-number-preserved c =
    let n = c.loop-number.number in
    let place : n ≡ 0 + n = omega arith in
    c.in_ok-push.ensures.items ∙ (ap (λ l. l ++ n ∷ []) c.loop-number.invariant
    ∙ (ap (λ (k : ℕ). range_with_len 0 n ++ k ∷ []) place ∙ sym (range_more 0 n)))
