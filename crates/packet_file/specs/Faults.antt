-- The faults of a file, each with the bytes that show it: what stands before a fault has none.
use Rattle.std.specs.Prelude.{◌≡◌, ◌≢◌, ◌<◌, ◌≤◌, ◌^◌, ℕ, List, ◌∷◌, ◌++◌, length, take, Some, None}
use Rattle.std.specs.Prelude.{codes}
use Rattle.byteorder.specs.Endian.{big_bytes}
use Rattle.oti_fields.specs.Fields.{FitsBits, codec_number, id_bytes}
use Rattle.oti_fields.specs.Faults.{field_fault}
use Rattle.oti_fields.specs.declared.codec.Codec.{Codec}
use Rattle.oti_fields.specs.declared.check.FieldFault.{FieldFault}
use Rattle.oti_fields.specs.declared.identifier.PacketId.{PacketId}
use Rattle.packet_file.specs.Header.{HeaderFields, header_bytes, source_counts, size_fault}
use Rattle.packet_file.specs.Header.{version_number}
use Rattle.packet_file.specs.Packets.{IsIdOf, block_symbols, true_len}
use Rattle.packet_file.specs.Pieces.{IsBroken, IsLead, lead_len}
use Rattle.packet_file.specs.declared.fault.FileFault.{FileFault}
use Rattle.packet_file.specs.declared.fault.FileFault.TheVariants.{ShortHeader, BadMagic}
use Rattle.packet_file.specs.declared.fault.FileFault.TheVariants.{BadVersion, BadCodec}
use Rattle.packet_file.specs.declared.fault.FileFault.TheVariants.{BadReserved, Field, ShortPacket}
use Rattle.packet_file.specs.declared.fault.FileFault.TheVariants.{NoSuchBlock, NoSuchSymbol}
use Rattle.packet_file.specs.declared.fault.FileFault.TheVariants.{BadLength}
use Rattle.packet_file.specs.declared.fault.FileFault.TheVariants.{TooLarge, TooManyBlocks}
use Rattle.packet_file.specs.declared.fault.FileFault.TheVariants.{TooManyPackets}
use Rattle.packet_file.specs.declared.version.Version.{Version}
use Rattle.packet_file.specs.declared.version.Version.TheVariants.{Two}

-- no version has the number
abbrev pub IsNoVersion : ℕ → Type 0
IsNoVersion number = (version : Version) → version_number version ≢ number

-- no codec has the number
abbrev pub IsNoCodec : ℕ → Type 0
IsNoCodec number = (codec : Codec) → codec_number codec ≢ number

-- two reserved bytes aren't both zero
abbrev pub AreNotZero : ℕ → ℕ → Type 0
AreNotZero a b = ¬ ((a ≡ 0) × (b ≡ 0))

-- the bytes spell fields of which this is the first fault
abbrev pub HasFieldFault : List ℕ → FieldFault → Type 0
HasFieldFault bytes fault = (h : HeaderFields) × FitsBits h.oti × (bytes ≡ header_bytes h)
    × (field_fault h.codec h.oti ≡ Some fault)

-- the bytes spell fields without a fault, and this is the first limit that their sizes pass
abbrev pub HasSizeFault : List ℕ → FileFault → Type 0
HasSizeFault bytes fault = (h : HeaderFields) × FitsBits h.oti × (bytes ≡ header_bytes h)
    × (field_fault h.codec h.oti ≡ None) × (size_fault h ≡ Some fault)

-- 26 bytes, or fewer where the input ended, are no header, and this is their first fault
abbrev pub HasHeaderFault : List ℕ → FileFault → Type 0
HasHeaderFault bytes (ShortHeader have) = (length bytes ≡ have) × (have < 26)
HasHeaderFault bytes BadMagic = (length bytes ≡ 26) × (take 4 bytes ≢ codes "OFPK")
HasHeaderFault bytes (BadVersion number) = (length bytes ≡ 26) × (rest : List ℕ)
    × (bytes ≡ codes "OFPK" ++ number ∷ rest) × IsNoVersion number
HasHeaderFault bytes (BadCodec number) = (length bytes ≡ 26) × (version : Version)
    × (rest : List ℕ) × (bytes ≡ codes "OFPK" ++ version_number version ∷ number ∷ rest)
    × IsNoCodec number
HasHeaderFault bytes BadReserved = (length bytes ≡ 26) × (version : Version) × (codec : Codec)
    × (a : ℕ) × (b : ℕ) × (rest : List ℕ)
    × (bytes ≡ codes "OFPK" ++ version_number version ∷ codec_number codec ∷ a ∷ b ∷ rest)
    × AreNotZero a b
HasHeaderFault bytes (Field fault) = HasFieldFault bytes fault
HasHeaderFault bytes (TooLarge limit) = HasSizeFault bytes (TooLarge limit)
HasHeaderFault bytes TooManyBlocks = HasSizeFault bytes TooManyBlocks
HasHeaderFault bytes _ = ⊥

-- a piece is no packet number `index` of at most `limit`, and this is its first fault
abbrev pub HasPacketFault : HeaderFields → ℕ → ℕ → List ℕ → FileFault → Type 0
HasPacketFault h index limit bytes TooManyPackets = (index ≡ limit) × (0 < length bytes)
    × (length bytes ≤ lead_len h)
HasPacketFault h index limit bytes (ShortPacket i have) = (index < limit) × (i ≡ index)
    × (length bytes ≡ have) × (0 < have) × IsBroken h index limit bytes
HasPacketFault h index limit bytes (NoSuchBlock i sbn) = (index < limit) × (i ≡ index)
    × (id : PacketId) × IsLead h bytes id × (id.sbn ≡ sbn) × (length (source_counts h) ≤ sbn)
HasPacketFault h index limit bytes (NoSuchSymbol i esi) = (index < limit) × (i ≡ index)
    × (id : PacketId) × IsLead h bytes id × (id.sbn < length (source_counts h)) × (id.esi ≡ esi)
    × (block_symbols h id.sbn ≤ esi)
HasPacketFault h index limit bytes (BadLength i len) = (index < limit) × (i ≡ index)
    × (h.version ≡ Two) × (id : PacketId) × IsIdOf h id × (len < 2 ^ 16)
    × (bytes ≡ id_bytes id ++ big_bytes 2 len) × (len ≢ true_len h id)
HasPacketFault h index limit bytes _ = ⊥
