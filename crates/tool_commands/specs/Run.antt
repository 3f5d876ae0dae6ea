-- What a run does.
use Rattle.std.specs.Prelude.{Bool, List, None, Option, Some, ℕ, ◌≡◌, ◌≢◌, ◌⊎◌}
use Rattle.datagram_pass.specs.declared.kind.Way.TheVariants.{Framing, Unframing}
use Rattle.packet_pass.specs.declared.kind.Pass.TheVariants.{Lose, Show, Upgrade}
use Rattle.tool_base.specs.Commands.{command_of}
use Rattle.tool_base.specs.Status.{fault_text}
use Rattle.tool_base.specs.declared.command.Command.{Command}
use Rattle.tool_base.specs.declared.status.Status.{Status}
use Rattle.tool_commands.specs.DecodeRun.{IsDecodeRun}
use Rattle.tool_commands.specs.EncodeRun.{IsEncodeRun}
use Rattle.fec_base.specs.Outside.{Hearing}
use Rattle.tool_base.specs.Outside.{Streams}
use Rattle.tool_commands.specs.PassRun.{IsPassRun}
use Rattle.tool_commands.specs.PerfRun.{IsPerfRun}
use Rattle.tool_base.specs.Written.{IsTold}
use Rattle.tool_reach.specs.DatagramRun.{IsDatagramRun}
use Rattle.tool_reach.specs.SalvageRun.{IsSalvageRun}
use Rattle.tool_base.specs.declared.command.Command.TheVariants as command
use Rattle.tool_base.specs.declared.status.Status.TheVariants as status

-- what a run does whose words mean no command
pub record IsUsageRun (before after : Streams) (ended : Status) : Type 0 where
  -- the words are usage, if there was memory to read them
  pub ends : (ended ≡ status.Usage) ⊎ (ended ≡ status.Memory)
  -- nothing was read or written, and the report says so
  pub input : after.input ≡ before.input
  pub output : after.output ≡ before.output
  pub told : IsTold (fault_text ended) before.report after.report

-- what a run of a command does, or one of words that mean none
abbrev pub IsCommandRun : Option Command → Streams → Streams → Hearing → Hearing → Status → Type 0
IsCommandRun None before after watch watch_now ended = IsUsageRun before after ended
IsCommandRun (Some (command.Encode shape symbol block max_n format)) before after watch
    watch_now ended = IsEncodeRun (record {
      shape = shape;
      symbol = symbol;
      block = block;
      max_n = max_n;
      format = format;
    }) before after ended
IsCommandRun (Some (command.Decode draws early most)) before after watch watch_now ended =
    IsDecodeRun draws early most before after watch watch_now ended
IsCommandRun (Some (command.Lose loss seed most)) before after watch watch_now ended =
    IsPassRun (Lose loss seed) most before after ended
IsCommandRun (Some (command.Show most)) before after watch watch_now ended =
    IsPassRun Show most before after ended
IsCommandRun (Some (command.Upgrade most)) before after watch watch_now ended =
    IsPassRun Upgrade most before after ended
IsCommandRun (Some (command.Perf shape symbol k n loss random runs seed threshold)) before after
    watch watch_now ended = IsPerfRun (record {
      shape = shape;
      k = k;
      n = n;
      plan = record {
        symbol = symbol;
        loss = loss;
        random = random;
        runs = runs;
        seed = seed;
        threshold = threshold;
      };
    }) before after ended
IsCommandRun (Some (command.Frame symbol)) before after watch watch_now ended =
    IsDatagramRun Framing symbol before after ended
IsCommandRun (Some (command.Unframe symbol)) before after watch watch_now ended =
    IsDatagramRun Unframing symbol before after ended
IsCommandRun (Some (command.Salvage draws most)) before after watch watch_now ended =
    IsSalvageRun draws most before after ended

-- what a run does: what the words ask for
abbrev pub IsRun : List (List ℕ) → Streams → Streams → Hearing → Hearing → Status → Type 0
IsRun words before after watch watch_now ended =
    IsCommandRun (command_of words) before after watch watch_now ended

-- this is no `decode`
abbrev pub IsNoDecode : Option Command → Type 0
IsNoDecode asked = (draws : Option ℕ) (early : Bool) (most : ℕ)
    → asked ≢ Some (command.Decode draws early most)

-- the words mean no `decode`
abbrev pub AsksNoDecode : List (List ℕ) → Type 0
AsksNoDecode words = IsNoDecode (command_of words)
