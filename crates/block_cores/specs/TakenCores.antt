-- Beside the promises of a run: decoders that took in a packet file.
use Rattle.std.specs.Prelude.{List, Option, length, ℕ, ◌≡◌}
use Rattle.fec_base.specs.Outside.{Stream}
use Rattle.packet_file.specs.Packets.{Packet}
use Rattle.sparse_rows.specs.Matrix.{Matrix}
use Rattle.object_file.specs.Receiving.{AreCores}
use Rattle.block_cores.specs.Taken.{IsTaken}
use Rattle.block_cores.specs.declared.taking.TakenFile.{TakenFile}

-- and the decoders of its blocks took in its packets, so many
pub record IsTakenFile (draws : Option ℕ) (most : ℕ) (input input_now : Stream)
    (taken : TakenFile) : Type 0 where
  pub code : ℕ → Matrix
  pub packets : List Packet
  pub file : IsTaken draws most input input_now taken.header code packets
  pub cores : AreCores taken.header code packets taken.cores
  pub counted : taken.packets ≡ length packets
