-- The packets of a file.
use Rattle.std.specs.Prelude.{◌≡◌, ◌<◌, ◌+◌, ◌-◌, ◌*◌, ◌==◌, ◌&&◌, ℕ, Bool, List, [], ◌++◌, length}
use Rattle.std.specs.Prelude.{slice_index, take, drop, if◌then◌else◌}
use Rattle.std.specs.List.{flat_map}
use Rattle.byteorder.specs.Endian.{big_bytes}
use Rattle.fec_base.specs.Symbol.{zero_symbol}
use Rattle.blocking.specs.Blocks.{symbol_total}
use Rattle.oti_fields.specs.Fields.{id_bytes}
use Rattle.oti_fields.specs.declared.oti.Oti.{Oti}
use Rattle.oti_fields.specs.declared.identifier.PacketId.{PacketId}
use Rattle.packet_file.specs.Header.{HeaderFields, source_counts, symbol_count}
use Rattle.packet_file.specs.declared.version.Version.{Version}
use Rattle.packet_file.specs.declared.version.Version.TheVariants.{One, Two}

-- how many encoding symbols block i of the file has
abbrev pub block_symbols : HeaderFields → ℕ → ℕ
block_symbols h i = symbol_count h (slice_index (source_counts h) i)

-- the file has this block, and the block this encoding symbol
pub record IsIdOf (h : HeaderFields) (id : PacketId) : Type 0 where
  pub block : id.sbn < length (source_counts h)
  pub symbol : id.esi < block_symbols h id.sbn

-- whether it is the object's last source symbol: the last one of the last block
abbrev pub is_last : HeaderFields → PacketId → Bool
is_last h id = (id.sbn + 1 == length (source_counts h))
    && (id.esi + 1 == slice_index (source_counts h) id.sbn)

-- how many bytes the object has behind all its source symbols but the last
abbrev pub last_len : Oti → ℕ
last_len oti = oti.length - (symbol_total oti.length oti.symbol - 1) * oti.symbol

-- how many bytes of an encoding symbol are no padding
abbrev pub true_len : HeaderFields → PacketId → ℕ
true_len h id = if is_last h id then last_len h.oti else h.oti.symbol

-- by the version, how many bytes of an encoding symbol its packet has: all of them, or those that
-- are no padding
abbrev pub payload_by : Version → ℕ → ℕ → ℕ
payload_by One len true_one = len
payload_by Two len true_one = true_one

-- how many bytes of a symbol of the file its packet has
abbrev pub payload_len : HeaderFields → PacketId → ℕ
payload_len h id = payload_by h.version h.oti.symbol (true_len h id)

-- by the version, the field of a packet's length: none, or 16 bits
abbrev pub length_field : Version → ℕ → List ℕ
length_field One len = []
length_field Two len = big_bytes 2 len

-- what a packet has in front of its payload: its identifier, and the field of its length
abbrev pub packet_head : HeaderFields → PacketId → List ℕ
packet_head h id = id_bytes id ++ length_field h.version (true_len h id)

-- a packet: its identifier and its encoding symbol
abbrev pub Packet : Type 0
Packet = PacketId × List ℕ

-- the payload of a packet: as many bytes of its encoding symbol as it has
abbrev pub payload : HeaderFields → Packet → List ℕ
payload h p = take (payload_len h p.0) p.1

-- the bytes of a packet
abbrev pub packet_bytes : HeaderFields → Packet → List ℕ
packet_bytes h p = packet_head h p.0 ++ payload h p

-- a symbol is zero from so many bytes on
abbrev pub IsZeroFrom : ℕ → List ℕ → Type 0
IsZeroFrom n symbol = drop n symbol ≡ zero_symbol (length (drop n symbol))

-- a packet of the file: the block and its encoding symbol are there, the symbol has the symbol
-- length, and is zero behind the payload
pub record IsPacketOf (h : HeaderFields) (p : Packet) : Type 0 where
  pub id : IsIdOf h p.0
  pub long : length p.1 ≡ h.oti.symbol
  pub padded : IsZeroFrom (payload_len h p.0) p.1

-- packets, one after the other
abbrev pub spelled : HeaderFields → List Packet → List ℕ
spelled h packets = flat_map (packet_bytes h) packets
