-- What a run does, by what its words ask for.
use Rattle.std.proofs.Common.{◌≡◌, [], ℕ, inl, inr, refl, arith, Option, Some, None}
use Rattle.std.proofs.KnownBytes.{Appends-nil, Consumes-nil}
use Rattle.datagram_pass.specs.declared.kind.Way.{Way}
use Rattle.datagram_pass.specs.declared.kind.Way.TheVariants.{Framing, Unframing}
use Rattle.packet_pass.specs.declared.kind.Pass.{Pass}
use Rattle.packet_pass.specs.declared.kind.Pass.TheVariants.{Lose, Show, Upgrade}
use Rattle.tool_base.specs.Status.{fault_text}
use Rattle.tool_base.specs.declared.command.Command.{Command}
use Rattle.tool_base.specs.declared.command.Command.TheVariants as command
use Rattle.tool_base.specs.declared.status.Status.{Status}
use Rattle.tool_base.specs.declared.status.Status.TheVariants as status
use Rattle.fec_base.specs.Outside.{Hearing, Stream}
use Rattle.tool_base.specs.Outside.{Streams}
use Rattle.tool_commands.specs.PassRun.{IsPassRun}
use Rattle.tool_commands.specs.Run.{IsCommandRun, IsUsageRun}
use Rattle.tool_base.specs.Written.{IsTold}
use Rattle.tool_base.specs.declared.causes.Refusal.TheVariants.{Memory}
use Rattle.tool_base.proofs.Endings.{ends_refused, ends_refusing}
use Rattle.tool_reach.specs.DatagramRun.{IsDatagramRun}
use Rattle.tool_commands.proofs.PassRuns.{pass_refused}
use Rattle.object_file.proofs.Telling.{keeps_same}

-- what is asked for is done, by whatever name
pub runs_asked : (before after : Streams) (watch watch_now : Hearing) (ended : Status)
    (means asked : Option Command)
    → means ≡ asked → IsCommandRun asked before after watch watch_now ended
    → IsCommandRun means before after watch watch_now ended
runs_asked before after watch watch_now ended means asked is run = rw is run

module _ (before : Streams) (report : Stream) where
  abbrev after : Streams
  after = record before { report = report }

  -- words that mean no command
  pub runs_usage : (ended : Status) → ended ≡ status.Usage
      → IsTold (fault_text status.Usage) before.report report → IsUsageRun before after ended
  runs_usage ended is told = rw is
      (record { ends = inl refl; input = refl; output = refl; told = told })

  -- without memory for the words a pass takes nothing
  pass_out : (pass : Pass) (most : ℕ) (ended : Status) → ended ≡ status.Memory
      → IsTold (fault_text status.Memory) before.report report
      → IsPassRun pass most before after ended
  pass_out pass most ended is told =
      pass_refused pass most before after ended Memory is []
      (refl, inl (Consumes-nil before.input.bytes)) (Appends-nil before.output.bytes) told

  -- nor does one over datagrams
  datagrams_out : (way : Way) (symbol : ℕ) (ended : Status) → ended ≡ status.Memory
      → IsTold (fault_text status.Memory) before.report report
      → IsDatagramRun way symbol before after ended
  datagrams_out way symbol ended is told =
      ends_refusing _ _ _ before.output before.output before.report report ended Memory is []
      (refl, refl) (Appends-nil before.output.bytes) told

  -- and any command ends so
  pub runs_out : (watch : Hearing) (asked : Option Command) (ended : Status) → ended ≡ status.Memory
      → IsTold (fault_text status.Memory) before.report report
      → IsCommandRun asked before after watch watch ended
  runs_out watch None ended is told =
      rw is (record { ends = inr refl; input = refl; output = refl; told = told })
  runs_out watch (Some (command.Encode shape symbol block max_n format)) ended is told = record {
    ends = ends_refused _ _ before.output before.report report ended Memory is tt told;
    taken = ([], Consumes-nil before.input.bytes, omega arith);
  }
  runs_out watch (Some (command.Decode draws early most)) ended is told =
      ends_refused _ _ before.output before.report report ended Memory is
      (inl ([], Consumes-nil before.input.bytes, omega arith, keeps_same watch.told)) told
  runs_out watch (Some (command.Lose loss seed most)) ended is told = pass_out (Lose loss seed) most
      ended is told
  runs_out watch (Some (command.Show most)) ended is told = pass_out Show most ended is told
  runs_out watch (Some (command.Upgrade most)) ended is told = pass_out Upgrade most ended is told
  runs_out watch (Some (command.Perf shape symbol k n loss random runs seed threshold)) ended is
      told = record {
        input = refl;
        ends = ends_refused _ _ before.output before.report report ended Memory is tt told;
        quiet = λ done. absurd (cc (is, done));
      }
  runs_out watch (Some (command.Frame symbol)) ended is told = datagrams_out Framing symbol ended is
      told
  runs_out watch (Some (command.Unframe symbol)) ended is told = datagrams_out Unframing symbol
      ended is told
  runs_out watch (Some (command.Salvage draws most)) ended is told =
      ends_refusing _ _ _ before.output before.output before.report report ended Memory is []
      (refl, inl ([], Consumes-nil before.input.bytes, omega arith))
      (Appends-nil before.output.bytes) told
