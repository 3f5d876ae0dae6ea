use Rattle.std.proofs.Common.{◌≡◌, ◌≤◌, ◌<◌, ℕ, false}
use Rattle.gauss.specs.Elimination.{lead_of}
use Rattle.gauss.specs.Table.{virtual_in}
use Rattle.gauss.proofs.table.find_pivot.Given as goal

abbrev pub invariant-loop-r : goal.invariant-loop-r
invariant-loop-r l = (j : ℕ) → j < l.r → l.group.unknowns ≤ lead_of l.group.unknowns l.leads j
    → virtual_in l.group l.words l.table l.leads j l.unknown ≡ false
