-- Whole packet files, and their upgrade.
use Rattle.std.specs.Prelude.{◌≡◌, ◌≤◌, ℕ, List, ◌++◌, length, All}
use Rattle.packet_file.specs.Header.{HeaderFields, IsHeader, header_bytes}
use Rattle.packet_file.specs.Packets.{IsPacketOf, IsZeroFrom, Packet, spelled, true_len}
use Rattle.packet_file.specs.declared.version.Version.TheVariants.{Two}

-- the bytes are a header and whole packets of that file, at most `most`
pub record IsPacketFile (h : HeaderFields) (most : ℕ) (packets : List Packet) (bytes : List ℕ) :
    Type 0 where
  pub header : IsHeader h
  pub each : All (IsPacketOf h) packets
  pub few : length packets ≤ most
  pub bytes_are : bytes ≡ header_bytes h ++ spelled h packets

-- the header with version 2
abbrev pub upgraded : HeaderFields → HeaderFields
upgraded h = record h { version = Two }

-- the padding of a packet's encoding symbol is zero
abbrev pub HasZeroPadding : HeaderFields → Packet → Type 0
HasZeroPadding h p = IsZeroFrom (true_len h p.0) p.1
