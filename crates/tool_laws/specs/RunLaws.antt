-- What runs come to where nothing outside fails.
use Rattle.std.specs.Prelude.{◌≡◌, ◌⊎◌, ◌≤◌, ℕ, Bool, List, [], ◌++◌, length, Option, Some, All}
use Rattle.std.specs.Io.KnownBytes.{Appends, IsAtEnd, Keeps}
use Rattle.fec_base.specs.Causes.{Rose}
use Rattle.sparse_rows.specs.Matrix.{Matrix}
use Rattle.packet_file.specs.Header.{HeaderFields, IsHeader, header_bytes, total_symbols}
use Rattle.packet_file.specs.Packets.{Packet, spelled}
use Rattle.packet_pass.specs.Pass.{IsFitFor, head_of, loss_in, seed_in, texts}
use Rattle.packet_pass.specs.Thinned.{kept_of}
use Rattle.packet_pass.specs.declared.kind.Pass.{Pass}
use Rattle.packet_pass.specs.declared.kind.Passed.{Passed}
use Rattle.tool_base.specs.declared.status.Status.{Status}
use Rattle.tool_base.specs.declared.status.Status.TheVariants as status
use Rattle.object_file.specs.Options.{header_for}
use Rattle.fec_base.specs.Outside.{Hearing}
use Rattle.tool_base.specs.Outside.{Streams}
use Rattle.packet_file.specs.Files.{IsPacketFile}
use Rattle.object_file.specs.Told.{HasCodes}
use Rattle.tool_commands.specs.EncodeRun.{Encoded, IsEncodeRun}
use Rattle.tool_commands.specs.DecodeRun.{Decided, IsDecodeRun}
use Rattle.tool_commands.specs.Outcomes.{if_done}
use Rattle.tool_commands.specs.PassRun.{IsPassRun, pass_report}
use Rattle.tool_laws.specs.RoundTrip.{AreAmong, AreSent, LackNullWords}
use Rattle.object_file.specs.declared.options.EncodeOptions.{EncodeOptions}

-- no stream failed: no count of faults rose
pub record NothingFails (before after : Streams) : Type 0 where
  pub reads : ¬ Rose before.input.faults after.input.faults
  pub writes : ¬ Rose before.output.faults after.output.faults
  pub reports : ¬ Rose before.report.faults after.report.faults

-- a `decode` whose input has these bytes left, with nothing that fails, and with enough draws for
-- the matrices of the file's blocks
pub record IsCleanDecode (h : HeaderFields) (bytes : List ℕ) (limit : Option ℕ) (early : Bool)
    (most : ℕ) (before after : Streams) (watch watch_now : Hearing) (ended : Status) : Type 0 where
  pub bytes_are : before.input.bytes ≡ Some bytes
  pub code : ℕ → Matrix
  pub codes : HasCodes h limit code
  pub clean : NothingFails before after
  pub heard : ¬ Rose watch.faults watch_now.faults
  pub run : IsDecodeRun limit early most before after watch watch_now ended

-- memory lacked, or so the run came out
abbrev pub OrMemory : Status → Type 0 → Type 0
OrMemory ended P = (ended ≡ status.Memory) ⊎ P

-- an object within the limits isn't refused: its packet file is written, and the report
abbrev pub ObjectIsEncoded : Type 0
ObjectIsEncoded = (o : EncodeOptions) (object : List ℕ) (code : ℕ → Matrix)
    (before after : Streams) (ended : Status)
    → IsHeader (header_for o (length object))
    → HasCodes (header_for o (length object)) o.shape.draws code
    → before.input.bytes ≡ Some object → NothingFails before after
    → IsEncodeRun o before after ended
    → OrMemory ended
    ((ended ≡ status.Done) × (file : List ℕ) × (text : List ℕ)
    × (e : Encoded o before.input after.input file text) × (e.object ≡ object)
    × Appends before.output.bytes after.output.bytes file
    × Appends before.report.bytes after.report.bytes text)

-- a packet file isn't refused: its blocks come out by its packets, the object is written where each
-- has its source, and the report says how they came out
abbrev pub PacketFileIsDecoded : Type 0
PacketFileIsDecoded = (h : HeaderFields) (packets : List Packet) (bytes : List ℕ)
    (limit : Option ℕ) (early : Bool) (most : ℕ) (before after : Streams)
    (watch watch_now : Hearing) (ended : Status)
    → IsPacketFile h most packets bytes
    → IsCleanDecode h bytes limit early most before after watch watch_now ended
    → OrMemory ended
    ((d : Decided limit early most before.input after.input watch watch_now ended)
    × Appends before.output.bytes after.output.bytes (if_done ended d.object)
    × Appends before.report.bytes after.report.bytes d.text)

-- by packets that are chosen from an object's file the object is written where in no block the
-- positions that came have a null word, and where some have one the run ends as undetermined
abbrev pub ChosenAreDecoded : Type 0
ChosenAreDecoded = (h : HeaderFields) (draws limit : Option ℕ) (object : List ℕ)
    (sent came : List Packet) (early : Bool) (most : ℕ) (before after : Streams)
    (watch watch_now : Hearing) (ended : Status)
    → AreSent h draws object sent → AreAmong came sent → length came ≤ most
    → IsCleanDecode h (header_bytes h ++ spelled h came) limit early most before after
    watch watch_now ended
    → OrMemory ended
    (((ended ≡ status.Done) × Appends before.output.bytes after.output.bytes object
    × LackNullWords h draws came)
    ⊎ ((ended ≡ status.Undetermined) × Keeps before.output.bytes after.output.bytes
    × (¬ LackNullWords h draws came)))

-- `decode` undoes `encode`: of the file that an `encode` wrote it writes the object that was read
abbrev pub EncodedIsDecoded : Type 0
EncodedIsDecoded = (o : EncodeOptions) (first last : Streams) (object file : List ℕ)
    (limit : Option ℕ) (early : Bool) (most : ℕ) (before after : Streams)
    (watch watch_now : Hearing) (ended : Status)
    → IsEncodeRun o first last status.Done → first.input.bytes ≡ Some object
    → first.output.bytes ≡ Some [] → last.output.bytes ≡ Some file
    → total_symbols (header_for o (length object)) ≤ most
    → IsCleanDecode (header_for o (length object)) file limit early most before after
    watch watch_now ended
    → OrMemory ended
    ((ended ≡ status.Done) × Appends before.output.bytes after.output.bytes object)

-- how many packets of a file there are, and how many of them a pass keeps
abbrev pub counts_of : Pass → List Packet → Passed
counts_of pass packets = record {
  packets = length packets;
  kept = kept_of (loss_in pass) (seed_in pass) (length packets);
}

-- the input was taken to its end, and the text and the report of these packets were written
pub record WritesText (pass : Pass) (h : HeaderFields) (packets : List Packet)
    (before after : Streams) : Type 0 where
  pub ended : IsAtEnd after.input.bytes
  pub written : Appends before.output.bytes after.output.bytes
      (head_of pass h ++ texts pass h packets)
  pub reported : Appends before.report.bytes after.report.bytes
      (pass_report pass (counts_of pass packets))

-- a pass doesn't refuse a packet file whose packets it can pass on, as a `lose` and a `show` can
-- all: its text is written
abbrev pub PacketFileIsPassed : Type 0
PacketFileIsPassed = (pass : Pass) (h : HeaderFields) (packets : List Packet) (bytes : List ℕ)
    (most : ℕ) (before after : Streams) (ended : Status)
    → IsPacketFile h most packets bytes → All (IsFitFor pass h) packets
    → before.input.bytes ≡ Some bytes → NothingFails before after
    → IsPassRun pass most before after ended
    → OrMemory ended ((ended ≡ status.Done) × WritesText pass h packets before after)
