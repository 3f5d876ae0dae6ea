-- The lines that show a packet file.
use Rattle.std.specs.Prelude.{ℕ, ◌+◌, List, ◌++◌, length, take, codes}
use Rattle.std.specs.Fmt.{decimal}
use Rattle.hex.specs.Hex.{encode_lower}
use Rattle.oti_fields.specs.declared.codec.Codec.{Codec}
use Rattle.oti_fields.specs.declared.codec.Codec.TheVariants.{Staircase, Triangle, Parity2d}
use Rattle.oti_fields.specs.declared.codec.Codec.TheVariants.{Corner2d}
use Rattle.oti_fields.specs.declared.oti.Oti.{Oti}
use Rattle.packet_file.specs.Header.{HeaderFields, source_counts}
use Rattle.packet_file.specs.Packets.{Packet, payload}

-- the name of a code and its parameters: N1 and the seed, or the width of the grid
abbrev pub codec_text : Codec → Oti → List ℕ
codec_text Staircase oti = codes "codec staircase n1 " ++ decimal (oti.n1m3 + 3)
    ++ codes " seed " ++ decimal oti.seed
codec_text Triangle oti = codes "codec triangle n1 " ++ decimal (oti.n1m3 + 3)
    ++ codes " seed " ++ decimal oti.seed
codec_text Parity2d oti = codes "codec 2d width " ++ decimal oti.seed
codec_text Corner2d oti = codes "codec 2d-corner width " ++ decimal oti.seed

-- the line of a header: its code, its fields, and the number of its source blocks
abbrev pub header_line : HeaderFields → List ℕ
header_line h = codec_text h.codec h.oti
    ++ codes " length " ++ decimal h.oti.length ++ codes " symbol " ++ decimal h.oti.symbol
    ++ codes " block " ++ decimal h.oti.block ++ codes " max " ++ decimal h.oti.max_n
    ++ codes " blocks " ++ decimal (length (source_counts h)) ++ codes "\n"

-- the first 16 bytes of a payload, or all of a shorter one, in lower-case hexadecimal
abbrev pub shown : List ℕ → List ℕ
shown bytes = encode_lower (take 16 bytes)

-- the line of packet i, counted from 0: its block, its encoding symbol, and how its payload begins
-- as it stands in the file
abbrev pub packet_line : HeaderFields → ℕ → Packet → List ℕ
packet_line h i p = codes "packet " ++ decimal i
    ++ codes " block " ++ decimal p.0.sbn ++ codes " symbol " ++ decimal p.0.esi
    ++ codes " bytes " ++ shown (payload h p) ++ codes "\n"
