use Rattle.std.proofs.Common.{ap, arith, count_by, get_or, length, sym, ℕ, ◌+◌, ◌<◌, ◌∙◌, ◌≡◌}
use Rattle.std.proofs.Common.{false, true}
use Rattle.std.proofs.lemmas.List.{take_all}
use Rattle.std.proofs.lemmas.List.FromFn.{get_or-range_with_len, length-range_with_len}
use Rattle.std.proofs.lemmas.List.Sums.{count_by_more_no, count_by_more_yes}
use Rattle.tool_reach.specs.Salvaged.{count_of, is_determined, sources_of}
use Rattle.tool_reach.proofs.surveying.count_determined.Goals as goal
use Rattle.tool_reach.proofs.surveying.count_determined.Goals.{then-is_determined, else-is_determined}

pub loop-e-preserved : goal.loop-e-preserved
loop-e-preserved c =
    let saved = c.args.partial.now in
    let f = is_determined saved in
    let xs = sources_of saved in
    let i = c.loop-e.e in
    let below : i < count_of saved = omega (arith, c.count-e-end.ensures) in
    let lt : i < length xs = omega (arith, below, length-range_with_len 0 (count_of saved)) in
    let at : get_or xs i 0 ≡ i = get_or-range_with_len 0 (count_of saved) i 0 below
    ∙ (let same : 0 + i ≡ i = omega arith in same) in
    elim c.if-is_determined.branch [
      | then-is_determined w ↦
          let own : f (get_or xs i 0) ≡ true = ap f at ∙ sym c.is_determined.ensures
          ∙ w.if-is_determined.true in (
            w.count-is ∙ ap (λ (n : ℕ). n + 1) c.loop-e.invariant.0
                ∙ sym (count_by_more_yes f xs i 0 lt own),
            omega (arith, w.count-is, c.loop-e.invariant.1),
          )
      | else-is_determined w ↦
          let own : f (get_or xs i 0) ≡ false = ap f at ∙ sym c.is_determined.ensures
          ∙ w.if-is_determined.false in (
            w.count-is ∙ c.loop-e.invariant.0 ∙ sym (count_by_more_no f xs i 0 lt own),
            omega (arith, w.count-is, c.loop-e.invariant.1),
          )
    ]

pub returns-clause-value : goal.returns-clause-value
returns-clause-value c =
    let saved = c.args.partial.now in
    let xs = sources_of saved in
    c.loop-e.invariant.0 ∙ ap (count_by (is_determined saved)) (take_all c.loop-e.e xs
    (omega (
      arith,
      length-range_with_len 0 (count_of saved),
      c.count-e-end.ensures,
      c.loop-e-test.false,
    )))
