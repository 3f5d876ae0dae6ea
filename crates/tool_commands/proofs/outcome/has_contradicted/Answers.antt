use Rattle.std.proofs.Common.{ap, sym, ◌∙◌, arith, rules}
use Rattle.tool_commands.specs.Outcomes.{is_contradicted}
use Rattle.tool_commands.proofs.Sourced.{none_at_all, none_more, some_here}
use Rattle.tool_commands.proofs.outcome.has_contradicted.Goals as goal

pub loop-block-preserved : goal.loop-block-preserved
loop-block-preserved g c =
    let xs = c.args.finished.now.outcomes in
    let o = c.outcome.result.now in
    none_more is_contradicted xs c.loop-block.block o (omega arith) c.loop-block.invariant
    (ap is_contradicted (sym (c.outcome.ensures o)) ∙ sym c.is_contradicted.ensures
    ∙ c.if-is_contradicted.false)

pub returns-then-is_contradicted : goal.returns-then-is_contradicted
returns-then-is_contradicted g c =
    let xs = c.args.finished.now.outcomes in
    let o = c.outcome.result.now in
    some_here is_contradicted xs c.loop-block.block o (omega arith)
    (ap is_contradicted (sym (c.outcome.ensures o)) ∙ sym c.is_contradicted.ensures
    ∙ c.if-is_contradicted.true)

pub returns : goal.returns
returns g c = none_at_all is_contradicted c.args.finished.now.outcomes c.loop-block.block
    (search rules) c.loop-block.invariant
