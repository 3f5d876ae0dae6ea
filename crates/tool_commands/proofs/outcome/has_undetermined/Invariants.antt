use Rattle.std.proofs.Common.{◌≡◌, false, take}
use Rattle.std.specs.List.{list_any}
use Rattle.tool_commands.specs.Outcomes.{is_undetermined}
use Rattle.tool_commands.proofs.outcome.has_undetermined.Given as goal

-- no block before this one is so
abbrev pub invariant-loop-block : goal.invariant-loop-block
invariant-loop-block g l = list_any is_undetermined (take l.block l.finished.outcomes) ≡ false
