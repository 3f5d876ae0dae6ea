-- Beside the promises of a run: decoders that take in the packets of a file.
use Rattle.std.specs.Prelude.{List, ℕ}
use Rattle.packet_file.specs.Header.{HeaderFields}
use Rattle.packet_file.specs.Packets.{Packet}
use Rattle.peeling.specs.Decoder.{Decoder}
use Rattle.sparse_rows.specs.Matrix.{Matrix}
use Rattle.object_file.specs.Receiving.{AreCores}

-- they are those of the file's blocks, whatever they received
abbrev pub AreBlocks : HeaderFields → List Decoder → Type 0
AreBlocks h decoders = (code : ℕ → Matrix) × (packets : List Packet)
    × AreCores h code packets decoders
