-- The exit statuses.
use Rattle.std.specs.Prelude.{ℕ}
use Rattle.tool_base.specs.declared.status.Status.{Status}
use Rattle.tool_base.specs.declared.status.Status.TheVariants.{Done, Memory, Usage, ReadFault}
use Rattle.tool_base.specs.declared.status.Status.TheVariants.{WriteFault, Malformed, Draws, Limit}
use Rattle.tool_base.specs.declared.status.Status.TheVariants.{Undetermined, NoCodeword, WatchFault}

-- the exit status
abbrev pub code_of : Status → ℕ
code_of Done = 0
code_of Memory = 1
code_of Usage = 2
code_of ReadFault = 3
code_of WriteFault = 4
code_of Malformed = 5
code_of Draws = 6
code_of Limit = 7
code_of Undetermined = 8
code_of NoCodeword = 9
code_of WatchFault = 10
