-- The faults of a packet file, one at most.
use Rattle.std.specs.Prelude.{◌≡◌, ◌<◌, ◌≤◌, ◌+◌, ℕ, List, ◌++◌, length, All, Some}
use Rattle.fec_base.specs.Outside.{stream}
use Rattle.packet_file.specs.Header.{HeaderFields, IsHeader, header_bytes}
use Rattle.packet_file.specs.Packets.{IsPacketOf, Packet, packet_bytes, spelled}
use Rattle.packet_file.specs.OneReading.{IsBadPiece}
use Rattle.packet_file.specs.Faults.{HasHeaderFault, HasPacketFault}
use Rattle.packet_file.specs.declared.fault.FileFault.{FileFault}

-- bytes have one header fault at most
abbrev pub HeaderFaultIsOne : Type 0
HeaderFaultIsOne = (bytes : List ℕ) (fault other : FileFault) → HasHeaderFault bytes fault
    → HasHeaderFault bytes other → fault ≡ other

-- a piece has one packet fault at most
abbrev pub PacketFaultIsOne : Type 0
PacketFaultIsOne = (h : HeaderFields) (index most : ℕ) (piece : List ℕ) (fault other : FileFault)
    → IsHeader h → HasPacketFault h index most piece fault → HasPacketFault h index most piece other
    → fault ≡ other

-- the bytes of a header have no fault
abbrev pub HeaderHasNoFault : Type 0
HeaderHasNoFault = (h : HeaderFields) (fault : FileFault) → IsHeader h
    → ¬ HasHeaderFault (header_bytes h) fault

-- nor have the bytes of a packet of the file, where one more may be read
abbrev pub PacketHasNoFault : Type 0
PacketHasNoFault = (h : HeaderFields) (index most : ℕ) (p : Packet) (fault : FileFault)
    → IsHeader h → IsPacketOf h p → index < most
    → ¬ HasPacketFault h index most (packet_bytes h p) fault

-- the bytes of packets of the file hold no bad piece, where as many may be read
abbrev pub PacketsAreNoBadPiece : Type 0
PacketsAreNoBadPiece = (h : HeaderFields) (index most : ℕ) (packets : List Packet)
    (piece behind : List ℕ) (faults : ℕ) (fault : FileFault) → IsHeader h
    → All (IsPacketOf h) packets → index + length packets ≤ most
    → spelled h packets ≡ piece ++ behind
    → ¬ IsBadPiece h most index (stream (Some behind) faults) piece fault
