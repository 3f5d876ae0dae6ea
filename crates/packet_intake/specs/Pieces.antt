-- One packet as it is handed on.
use Rattle.std.specs.Prelude.{◌≡◌, ℕ, List, ◌++◌, drop}
use Rattle.oti_fields.specs.Fields.{id_bytes}
use Rattle.oti_fields.specs.declared.identifier.PacketId.{PacketId}
use Rattle.packet_file.specs.Header.{HeaderFields}
use Rattle.packet_file.specs.Packets.{IsPacketOf}

-- the bytes are the identifier and the encoding symbol of a packet of the file
pub record IsPacketBytes (h : HeaderFields) (id : PacketId) (bytes : List ℕ) : Type 0 where
  pub packet : IsPacketOf h (id, drop 4 bytes)
  pub spelled : bytes ≡ id_bytes id ++ drop 4 bytes
