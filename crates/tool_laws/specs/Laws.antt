-- Files, objects and outcomes, one to one.
use Rattle.std.specs.Prelude.{◌≡◌, ◌≢◌, ℕ, Bool, List, ◌++◌, length, map, All, Option, Some, IfSome}
use Rattle.std.specs.Io.KnownBytes.{Consumes}
use Rattle.std.specs.Option.{option_map}
use Rattle.fec_base.specs.Outside.{Stream}
use Rattle.fec_base.specs.Told.{Telling, place_of}
use Rattle.fec_base.specs.declared.outside.Place.{Place}
use Rattle.fec_session.specs.declared.outcome.Outcome.{Outcome}
use Rattle.packet_file.specs.Header.{HeaderFields, header_bytes}
use Rattle.packet_file.specs.OnePacket.{StopsBefore}
use Rattle.packet_file.specs.OneReading.{LacksHeader}
use Rattle.packet_file.specs.OneReading.Stop.{Bad}
use Rattle.packet_file.specs.declared.fault.FileFault.{FileFault}
use Rattle.tool_base.specs.declared.status.Status.TheVariants as status
use Rattle.tool_commands.specs.DecodeRun.{Decodes}
use Rattle.object_file.specs.File.{IsEncoding}
use Rattle.tool_commands.specs.Outcomes.{outcome_status}
use Rattle.packet_file.specs.Files.{IsPacketFile}
use Rattle.packet_file.specs.Packets.{IsPacketOf, Packet, spelled}

-- bytes are the packet file of one header and one list of packets at most
abbrev pub PacketFileIsOne : Type 0
PacketFileIsOne = (h other : HeaderFields) (most other_most : ℕ) (packets others : List Packet)
    (bytes : List ℕ)
    → IsPacketFile h most packets bytes → IsPacketFile other other_most others bytes → (h ≡ other)
    × (packets ≡ others)

-- by a given header an object has one packet file and one report at most
abbrev pub EncodingIsOne : Type 0
EncodingIsOne = (h : HeaderFields) (draws : Option ℕ)
    (object file other report other_report : List ℕ)
    → IsEncoding h draws object file report → IsEncoding h draws object other other_report
    → (file ≡ other) × (report ≡ other_report)

-- the places that were told of, in order
abbrev pub told_at : Option (List Telling) → Option (List Place)
told_at told = option_map (map place_of) told

-- the bytes of an input decode in one way at most, whatever the limits of draws and packets are:
-- each block comes out in one way, so that there is one object and one report; the same bytes are
-- left, and where it is known what is told, it is told of the same places, and unless some block is
-- contradicted of the same symbols
abbrev pub DecodingIsOne : Type 0
DecodingIsOne = (draws other_draws : Option ℕ) (early : Bool) (most other_most : ℕ) (bytes : List ℕ)
    (told : Option (List Telling)) (left other_left : Option (List ℕ))
    (told_now other_told : Option (List Telling)) (outcomes others : List Outcome)
    (object other report other_report : List ℕ)
    → Decodes draws early most (Some bytes) left told told_now outcomes object report
    → Decodes other_draws early other_most (Some bytes) other_left told other_told
    others other other_report
    → (outcomes ≡ others) × (object ≡ other) × (report ≡ other_report) × (left ≡ other_left)
    × IfSome told (λ before. told_at told_now ≡ told_at other_told)
    × (outcome_status outcomes ≢ status.NoCodeword → IfSome told (λ before. told_now ≡ other_told))

-- the bytes of a packet file have no fault: they aren't refused as a header, and behind any of
-- its packets they aren't refused as a packet
abbrev pub PacketFileHasNoFault : Type 0
PacketFileHasNoFault = (h : HeaderFields) (most : ℕ) (packets : List Packet) (bytes : List ℕ)
    → IsPacketFile h most packets bytes → (fault : FileFault) (input now : Stream)
    → (input.bytes ≡ Some bytes → ¬ LacksHeader input now (Bad fault))
    × ((before : List Packet) → All (IsPacketOf h) before
    → Consumes (Some bytes) input.bytes (header_bytes h ++ spelled h before)
    → ¬ StopsBefore h most (length before) input now (Bad fault))
