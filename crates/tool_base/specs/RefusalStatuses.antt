-- Inside: which statuses are of refusals.
use Rattle.std.specs.Prelude.{⊤}
use Rattle.tool_base.specs.declared.status.Status.{Status}
use Rattle.tool_base.specs.declared.status.Status.TheVariants as status

-- the statuses of refusals
abbrev pub IsRefused : Status → Type 0
IsRefused status.Memory = ⊤
IsRefused status.ReadFault = ⊤
IsRefused status.Malformed = ⊤
IsRefused status.Draws = ⊤
IsRefused status.Limit = ⊤
IsRefused status.WatchFault = ⊤
IsRefused _ = ⊥
