-- How the bytes behind a header are cut into pieces, each of which is to be a packet.
use Rattle.std.specs.Prelude.{◌≡◌, ◌<◌, ◌+◌, ◌⊎◌, ℕ, List, ◌++◌, length}
use Rattle.oti_fields.specs.Fields.{FitsIdBits, id_bytes}
use Rattle.oti_fields.specs.declared.identifier.PacketId.{PacketId}
use Rattle.packet_file.specs.Header.{HeaderFields}
use Rattle.packet_file.specs.Packets.{IsIdOf, packet_head, payload_len}
use Rattle.packet_file.specs.declared.version.Version.{Version}
use Rattle.packet_file.specs.declared.version.Version.TheVariants.{One, Two}

-- by the version, how many bytes of a piece are read before anything is known of it: a whole
-- packet, or what stands in front of a payload
abbrev pub lead_by : Version → ℕ → ℕ
lead_by One len = 4 + len
lead_by Two len = 6

-- how many bytes of a piece of the file are read first
abbrev pub lead_len : HeaderFields → ℕ
lead_len h = lead_by h.version h.oti.symbol

-- the bytes are so many, and begin with this identifier
abbrev pub IsLead : HeaderFields → List ℕ → PacketId → Type 0
IsLead h bytes id = (rest : List ℕ) × FitsIdBits id × (length bytes ≡ lead_len h)
    × (bytes ≡ id_bytes id ++ rest)

-- piece number `index` of at most `limit` breaks off: it is shorter than that, or it is the head of
-- a packet of the file and less than its payload
abbrev pub IsBroken : HeaderFields → ℕ → ℕ → List ℕ → Type 0
IsBroken h index limit bytes = (length bytes < lead_len h)
    ⊎ ((id : PacketId) × (rest : List ℕ) × (index < limit) × IsIdOf h id
    × (bytes ≡ packet_head h id ++ rest) × (length rest < payload_len h id))
