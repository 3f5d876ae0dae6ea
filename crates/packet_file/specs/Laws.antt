-- Headers, packets and their bytes, one to one.
use Rattle.std.specs.Prelude.{◌≡◌, ◌<◌, ◌≤◌, ◌+◌, ◌*◌, ℕ, List, ◌++◌, length, All}
use Rattle.oti_fields.specs.Fields.{FitsBits, FitsIdBits}
use Rattle.packet_file.specs.Header.{HeaderFields, IsHeader, header_bytes, source_counts}
use Rattle.packet_file.specs.Header.{symbol_count}
use Rattle.packet_file.specs.Packets.{IsPacketOf, Packet, packet_bytes, spelled}
use Rattle.packet_file.specs.Files.{HasZeroPadding, IsPacketFile, upgraded}
use Rattle.packet_file.specs.declared.version.Version.TheVariants.{One}

-- bytes spell one header at most
abbrev pub HeaderIsOne : Type 0
HeaderIsOne = (h other : HeaderFields) → FitsBits h.oti → FitsBits other.oti
    → header_bytes h ≡ header_bytes other → h ≡ other

-- bytes begin with one packet of a file at most: its bytes are no front of another one's
abbrev pub PacketIsOne : Type 0
PacketIsOne = (h : HeaderFields) (p other : Packet) (rest more : List ℕ) → IsHeader h
    → IsPacketOf h p → IsPacketOf h other
    → packet_bytes h p ++ rest ≡ packet_bytes h other ++ more
    → (p ≡ other) × (rest ≡ more)

-- the bytes are those of an identifier and a symbol, whether or not the file has them
pub record IsSpelling (h : HeaderFields) (p : Packet) (bytes : List ℕ) : Type 0 where
  pub bits : FitsIdBits p.0
  pub long : length p.1 ≡ h.oti.symbol
  pub bytes_are : bytes ≡ packet_bytes h p

-- in version 1, as many bytes as a packet has spell exactly one identifier and symbol
abbrev pub PacketIsSpelled : Type 0
PacketIsSpelled = (h : HeaderFields) (bytes : List ℕ) → h.version ≡ One
    → length bytes ≡ 4 + h.oti.symbol → All (λ byte. byte < 256) bytes
    → (p : Packet) × IsSpelling h p bytes
    × ((other : Packet) → IsSpelling h other bytes → other ≡ p)

-- bytes are the packet file of one header and one list of packets at most
abbrev pub FileIsOne : Type 0
FileIsOne = (h other : HeaderFields) (most other_most : ℕ) (packets others : List Packet)
    (bytes : List ℕ) → IsPacketFile h most packets bytes
    → IsPacketFile other other_most others bytes → (h ≡ other) × (packets ≡ others)

-- the upgrade of a packet file without a fault of padding is the packet file of version 2 that has
-- the same packets, one by one
abbrev pub UpgradeHasPackets : Type 0
UpgradeHasPackets = (h : HeaderFields) (most : ℕ) (packets : List Packet) (bytes : List ℕ)
    → IsPacketFile h most packets bytes → All (HasZeroPadding h) packets
    → IsPacketFile (upgraded h) most packets
    (header_bytes (upgraded h) ++ spelled (upgraded h) packets)

-- a block's source symbols are among its encoding symbols, and both are within the limits of a
-- block
pub record IsBlockOf (h : HeaderFields) (k : ℕ) : Type 0 where
  pub some : 1 ≤ k
  pub within : k ≤ h.oti.block
  pub encoded : k ≤ symbol_count h k
  pub symbols : symbol_count h k ≤ 65536
  pub bytes : symbol_count h k * h.oti.symbol ≤ 268435456

-- each block of a header is such a block, and there are at most 4,096
abbrev pub BlocksAreSized : Type 0
BlocksAreSized = (h : HeaderFields) → IsHeader h → All (IsBlockOf h) (source_counts h)
    × (length (source_counts h) ≤ 4096)
