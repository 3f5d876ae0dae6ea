use Rattle.std.proofs.Common.{count_by, take, ◌≡◌, ◌≤◌}
use Rattle.tool_reach.specs.Salvaged.{is_determined, sources_of}
use Rattle.tool_reach.proofs.surveying.count_determined.Given as goal

-- so many of those before this one are determined
abbrev pub invariant-loop-e : goal.invariant-loop-e
invariant-loop-e l = (l.count ≡ count_by (is_determined l.partial) (take l.e (sources_of l.partial)))
    × (l.count ≤ l.e)
