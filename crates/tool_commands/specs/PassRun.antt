-- What a `lose`, a `show` or an `upgrade` does: one pass over a packet file.
use Rattle.std.specs.Fmt.{decimal}
use Rattle.std.specs.Io.KnownBytes.{Consumes}
use Rattle.std.specs.Prelude.{List, [], codes, ℕ, ◌++◌, ◌≡◌, ◌⊎◌}
use Rattle.fec_base.specs.Outside.{Stream}
use Rattle.packet_file.specs.Header.{HeaderFields}
use Rattle.packet_file.specs.OneReading.{ReadsFile}
use Rattle.packet_file.specs.OneReading.Stop.{Enough}
use Rattle.packet_pass.specs.Pass.{PassEnds, PassesWhole}
use Rattle.packet_pass.specs.declared.kind.Pass.{Pass}
use Rattle.packet_pass.specs.declared.kind.Pass.TheVariants.{Lose, Show, Upgrade}
use Rattle.packet_pass.specs.declared.kind.Passed.{Passed}
use Rattle.packet_pass.specs.declared.kind.PassRefusal.TheVariants as early
use Rattle.tool_base.specs.Ending.{Due, EndsBy, OrRefusal, Refuses}
use Rattle.tool_base.specs.Outside.{Streams}
use Rattle.tool_base.specs.Refusals.{numbered}
use Rattle.tool_base.specs.declared.causes.Refusal.TheVariants.{File, Memory}
use Rattle.tool_base.specs.declared.status.Status.{Status}
use Rattle.tool_base.specs.declared.status.Status.TheVariants.{Done}

-- the report of a pass to the end of the input: `lose` counts the packets that were read and those
-- that are kept, `show` reports nothing, and `upgrade` counts the packets
abbrev pub pass_report : Pass → Passed → List ℕ
pass_report (Lose loss seed) passed =
    codes "read " ++ decimal passed.packets ++ numbered (codes " kept ") passed.kept
pass_report Show passed = []
pass_report Upgrade passed = numbered (codes "packets ") passed.packets

-- what is due of a pass whose input is a packet file: its text and its report
abbrev pub PassDue : Pass → ℕ → Stream → Stream → Due
PassDue pass most input input_now Done out text = (passed : Passed)
    × PassesWhole pass most input input_now passed out × (text ≡ pass_report pass passed)
PassDue pass most input input_now _ out text = ⊥

-- at most a header was taken
abbrev pub TakesNoPacket : ℕ → Stream → Stream → Type 0
TakesNoPacket most input input_now = Consumes input.bytes input_now.bytes []
    ⊎ ((h : HeaderFields) × ReadsFile most input input_now h [] Enough)

-- a pass is refused: memory lacked before a packet was taken or a byte was written; or its input
-- failed or is no packet file, or has a packet that can't be passed on, and the text of the packets
-- before was written
abbrev pub RefusesPass : Pass → ℕ → Stream → Stream → Refuses
RefusesPass pass most input input_now Memory out = (out ≡ []) × TakesNoPacket most input input_now
RefusesPass pass most input input_now (File fault) out =
    PassEnds pass most input input_now (early.File fault) out
RefusesPass pass most input input_now _ out = ⊥

-- what a `lose`, a `show` or an `upgrade` does; where the output fails, nothing is taken behind
-- what it was to take last
abbrev pub IsPassRun : Pass → ℕ → Streams → Streams → Status → Type 0
IsPassRun pass most before after ended =
    EndsBy (OrRefusal (PassDue pass most before.input after.input)
    (RefusesPass pass most before.input after.input))
    (PassEnds pass most before.input after.input early.Output) before.output after.output
    before.report after.report ended
