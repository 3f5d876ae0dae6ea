use Rattle.std.proofs.Common.{◌≡◌, ◌++◌, ◌∷◌, [], ap, sym, ◌∙◌, length, arith}
use Rattle.std.proofs.lemmas.List.FromFn.{length-range_with_len}
use Rattle.one_block.proofs.Listed.{range_more}
use Rattle.one_block.proofs.numbers.numbers_below.Goals as goal

pub returns-clause-counted : goal.returns-clause-counted
returns-clause-counted c =
    let last : c.loop-number.number ≡ c.args.count = omega (arith, c.loop-number-test.false) in
    ap length c.loop-number.invariant ∙ (length-range_with_len 0 c.loop-number.number ∙ last)

pub loop-number-preserved : goal.loop-number-preserved
loop-number-preserved c =
    c.in_ok-push.ensures.items
    ∙ (ap (λ l. l ++ c.loop-number.number ∷ []) c.loop-number.invariant
    ∙ sym (range_more c.loop-number.number))
