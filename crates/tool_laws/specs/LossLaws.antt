-- What a `lose` leaves of a packet file, and what comes back of it.
use Rattle.std.specs.Io.KnownBytes.{Appends, Keeps}
use Rattle.std.specs.Prelude.{Bool, List, Option, Some, [], length, ℕ, ◌≡◌, ◌≤◌, ◌⊎◌}
use Rattle.fec_base.specs.Outside.{Hearing}
use Rattle.loss_patterns.specs.declared.kind.LossKind.{LossKind}
use Rattle.object_file.specs.Options.{header_for}
use Rattle.packet_file.specs.Files.{IsPacketFile}
use Rattle.object_file.specs.declared.options.EncodeOptions.{EncodeOptions}
use Rattle.packet_file.specs.Header.{HeaderFields, total_symbols}
use Rattle.packet_file.specs.Packets.{Packet}
use Rattle.packet_pass.specs.declared.kind.Pass.TheVariants.{Lose}
use Rattle.tool_base.specs.declared.status.Status.{Status}
use Rattle.tool_base.specs.declared.status.Status.TheVariants as status
use Rattle.tool_commands.specs.EncodeRun.{IsEncodeRun}
use Rattle.tool_base.specs.Outside.{Streams}
use Rattle.tool_commands.specs.PassRun.{IsPassRun}
use Rattle.tool_laws.specs.RoundTrip.{AreAmong}
use Rattle.tool_laws.specs.RunLaws.{IsCleanDecode, OrMemory}

-- what a `lose` writes is a packet file of the same header, and its packets are among those that it
-- read, and no more of them
abbrev pub LossLeavesPacketFile : Type 0
LossLeavesPacketFile = (loss : LossKind) (seed most : ℕ) (before after : Streams)
    (bytes left : List ℕ)
    → IsPassRun (Lose loss seed) most before after status.Done
    → before.input.bytes ≡ Some bytes → before.output.bytes ≡ Some []
    → after.output.bytes ≡ Some left
    → (h : HeaderFields) × (packets : List Packet) × (kept : List Packet)
    × IsPacketFile h most packets bytes × IsPacketFile h most kept left × AreAmong kept packets
    × (length kept ≤ length packets)

-- what was encoded and then lost in part is never decoded wrong: where nothing fails and memory
-- suffices, the object is written, or some block is undetermined
abbrev pub LostIsNeverDecodedWrong : Type 0
LostIsNeverDecodedWrong = (o : EncodeOptions) (first last : Streams) (object file : List ℕ)
    (loss : LossKind) (seed read : ℕ) (sent came : Streams) (left : List ℕ) (limit : Option ℕ)
    (early : Bool) (most : ℕ) (before after : Streams) (watch watch_now : Hearing) (ended : Status)
    → IsEncodeRun o first last status.Done → first.input.bytes ≡ Some object
    → first.output.bytes ≡ Some [] → last.output.bytes ≡ Some file
    → IsPassRun (Lose loss seed) read sent came status.Done → sent.input.bytes ≡ Some file
    → sent.output.bytes ≡ Some [] → came.output.bytes ≡ Some left
    → total_symbols (header_for o (length object)) ≤ most
    → IsCleanDecode (header_for o (length object)) left limit early most before after watch
    watch_now ended
    → OrMemory ended
    (((ended ≡ status.Done) × Appends before.output.bytes after.output.bytes object)
    ⊎ ((ended ≡ status.Undetermined) × Keeps before.output.bytes after.output.bytes))
