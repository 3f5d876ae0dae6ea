use Rattle.std.proofs.Common.{ap, sym, ◌∙◌, arith, rules}
use Rattle.tool_commands.specs.Outcomes.{is_undetermined}
use Rattle.tool_commands.proofs.Sourced.{none_at_all, none_more, some_here}
use Rattle.tool_commands.proofs.outcome.has_undetermined.Goals as goal

pub loop-block-preserved : goal.loop-block-preserved
loop-block-preserved g c =
    let xs = c.args.finished.now.outcomes in
    let o = c.outcome.result.now in
    none_more is_undetermined xs c.loop-block.block o (omega arith) c.loop-block.invariant
    (ap is_undetermined (sym (c.outcome.ensures o)) ∙ sym c.is_undetermined.ensures
    ∙ c.if-is_undetermined.false)

pub returns-then-is_undetermined : goal.returns-then-is_undetermined
returns-then-is_undetermined g c =
    let xs = c.args.finished.now.outcomes in
    let o = c.outcome.result.now in
    some_here is_undetermined xs c.loop-block.block o (omega arith)
    (ap is_undetermined (sym (c.outcome.ensures o)) ∙ sym c.is_undetermined.ensures
    ∙ c.if-is_undetermined.true)

pub returns : goal.returns
returns g c = none_at_all is_undetermined c.args.finished.now.outcomes c.loop-block.block
    (search rules) c.loop-block.invariant
