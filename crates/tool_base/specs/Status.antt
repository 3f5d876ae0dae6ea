-- The statuses of the program: their numbers and their texts.
use Rattle.std.specs.Prelude.{ℕ, List, [], codes}
use Rattle.tool_base.specs.declared.status.Status.{Status}
use Rattle.tool_base.specs.declared.status.Status.TheVariants.{Done, Memory, Usage, ReadFault}
use Rattle.tool_base.specs.declared.status.Status.TheVariants.{WriteFault, Malformed, Draws, Limit}
use Rattle.tool_base.specs.declared.status.Status.TheVariants.{Undetermined, NoCodeword, WatchFault}

-- the report of a status that goes by nothing else
abbrev pub fault_text : Status → List ℕ
fault_text Done = []
fault_text Memory = codes "fault: memory\n"
fault_text Usage = codes "fault: usage\nusage: eperftool COMMAND [--name=value ...]\n"
fault_text ReadFault = codes "fault: read\n"
fault_text WriteFault = codes "fault: write\n"
fault_text Malformed = []
fault_text Draws = []
fault_text Limit = []
fault_text Undetermined = []
fault_text NoCodeword = []
fault_text WatchFault = codes "fault: watch\n"
