-- What a `frame` and an `unframe` come to where nothing outside fails.
use Rattle.std.specs.Prelude.{◌≡◌, ◌<◌, ◌≤◌, ◌^◌, ℕ, Bool, List, [], ◌++◌, length, Option, Some}
use Rattle.std.specs.Io.KnownBytes.{Appends}
use Rattle.fec_base.specs.Outside.{Hearing}
use Rattle.adu_frames.specs.Frames.{Datagram}
use Rattle.datagram_pass.specs.Laws.{AreDatagrams}
use Rattle.datagram_pass.specs.Ways.{all_taken, all_written}
use Rattle.datagram_pass.specs.declared.kind.Way.{Way}
use Rattle.datagram_pass.specs.declared.kind.Way.TheVariants.{Framing, Unframing}
use Rattle.packet_file.specs.Header.{HeaderFields, header_bytes}
use Rattle.packet_file.specs.Packets.{Packet, spelled}
use Rattle.tool_base.specs.Outside.{Streams}
use Rattle.tool_base.specs.declared.status.Status.{Status}
use Rattle.tool_base.specs.declared.status.Status.TheVariants as status
use Rattle.tool_reach.specs.DatagramRun.{IsDatagramRun, count_text}
use Rattle.tool_laws.specs.RoundTrip.{AreAmong, AreSent}
use Rattle.tool_laws.specs.RunLaws.{IsCleanDecode, NothingFails, OrMemory}

-- datagrams aren't refused: what goes for them is written, and the report counts them
abbrev pub DatagramsAreRun : Type 0
DatagramsAreRun = (way : Way) (symbol : ℕ) (datagrams : List Datagram) (before after : Streams)
    (ended : Status)
    → AreDatagrams symbol datagrams
    → before.input.bytes ≡ Some (all_taken way symbol datagrams) → NothingFails before after
    → IsDatagramRun way symbol before after ended
    → OrMemory ended ((ended ≡ status.Done)
    × Appends before.output.bytes after.output.bytes (all_written way symbol datagrams)
    × Appends before.report.bytes after.report.bytes (count_text (length datagrams)))

-- a `frame` of this stream came to its end and wrote these frames
pub record WroteFrames (symbol : ℕ) (datagram_stream frames : List ℕ) : Type 0 where
  pub first : Streams
  pub last : Streams
  pub least : 3 ≤ symbol
  pub most : symbol < 2 ^ 16
  pub run : IsDatagramRun Framing symbol first last status.Done
  pub read : first.input.bytes ≡ Some datagram_stream
  pub empty : first.output.bytes ≡ Some []
  pub wrote : last.output.bytes ≡ Some frames

-- `unframe` undoes `frame`
abbrev pub UnframeUndoesFrame : Type 0
UnframeUndoesFrame = (symbol : ℕ) (datagram_stream frames : List ℕ) (before after : Streams)
    (ended : Status)
    → WroteFrames symbol datagram_stream frames → before.input.bytes ≡ Some frames
    → NothingFails before after → IsDatagramRun Unframing symbol before after ended
    → OrMemory ended
    ((ended ≡ status.Done) × Appends before.output.bytes after.output.bytes datagram_stream)

-- datagrams whose frames were the object of a packet file come back of any of its packets by which
-- a `decode` comes to its end
abbrev pub DatagramsComeBack : Type 0
DatagramsComeBack = (symbol : ℕ) (datagram_stream frames : List ℕ) (h : HeaderFields)
    (draws limit : Option ℕ) (sent came : List Packet) (early : Bool) (most : ℕ)
    (first last : Streams) (watch watch_now : Hearing) (before after : Streams) (ended : Status)
    → WroteFrames symbol datagram_stream frames → AreSent h draws frames sent → AreAmong came sent
    → length came ≤ most
    → IsCleanDecode h (header_bytes h ++ spelled h came) limit early most first last watch watch_now
    status.Done
    → first.output.bytes ≡ Some [] → before.input.bytes ≡ last.output.bytes
    → NothingFails before after → IsDatagramRun Unframing symbol before after ended
    → OrMemory ended
    ((ended ≡ status.Done) × Appends before.output.bytes after.output.bytes datagram_stream)
