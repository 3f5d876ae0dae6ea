-- Beside the promises of a run: one packet that is read.
use Rattle.std.specs.Prelude.{ℕ, ◌<◌}
use Rattle.std.specs.Io.KnownBytes.{Consumes}
use Rattle.fec_base.specs.Outside.{Stream}
use Rattle.packet_file.specs.Header.{HeaderFields}
use Rattle.packet_file.specs.Packets.{IsPacketOf, Packet, packet_bytes}

-- packet number `index` of the file was taken, of at most `most`
pub record TakesPacketOf (h : HeaderFields) (most index : ℕ) (input input_now : Stream)
    (p : Packet) : Type 0 where
  pub packet : IsPacketOf h p
  pub within : index < most
  pub taken : Consumes input.bytes input_now.bytes (packet_bytes h p)
