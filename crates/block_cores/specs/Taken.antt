-- A packet file that is taken to its end, and why one isn't.
use Rattle.std.specs.Prelude.{List, Option, length, ℕ, ◌≡◌, ◌⊎◌}
use Rattle.fec_base.specs.Outside.{Stream}
use Rattle.packet_file.specs.Header.{HeaderFields}
use Rattle.packet_file.specs.OneReading.{ReadsFile, Stop, stop_by}
use Rattle.packet_file.specs.OneReading.Stop.{End}
use Rattle.packet_file.specs.Packets.{Packet}
use Rattle.packet_file.specs.Taking.{TakesAtMost}
use Rattle.sparse_rows.specs.Matrix.{Matrix}
use Rattle.object_file.specs.Receiving.{AreCores}
use Rattle.object_file.specs.Opening.{RefusesOpening}
use Rattle.object_file.specs.Told.{HasCodes}
use Rattle.tool_base.specs.declared.causes.Refusal.{Refusal}
use Rattle.tool_base.specs.declared.causes.Refusal.TheVariants.{Draws, File, Memory, Watch}
use Rattle.block_cores.specs.declared.taking.TakenFile.{TakenFile}

-- a packet file was read until this stopped it, and its blocks have these matrices
pub record ReadsCoded (draws : Option ℕ) (most : ℕ) (input input_now : Stream) (h : HeaderFields)
    (code : ℕ → Matrix) (packets : List Packet) (stop : Stop) : Type 0 where
  pub read : ReadsFile most input input_now h packets stop
  pub codes : HasCodes h draws code

-- it was read to its end
abbrev pub IsTaken : Option ℕ → ℕ → Stream → Stream → HeaderFields → (ℕ → Matrix) → List Packet
    → Type 0
IsTaken draws most input input_now h code packets =
    ReadsCoded draws most input input_now h code packets End

-- memory lacked before a byte behind the header was taken, or once the last packet was taken
abbrev pub LacksMemory : Option ℕ → ℕ → Stream → Stream → Type 0
LacksMemory draws most input input_now = TakesAtMost input.bytes input_now.bytes 26
    ⊎ ((h : HeaderFields) × (code : ℕ → Matrix) × (packets : List Packet)
    × IsTaken draws most input input_now h code packets)

-- behind a header, and some packets of its file, this stopped the reading
abbrev pub StopsBehind : Option ℕ → ℕ → Stream → Stream → Stop → Type 0
StopsBehind draws most input input_now stop =
    (h : HeaderFields) × (code : ℕ → Matrix) × (packets : List Packet)
    × ReadsCoded draws most input input_now h code packets stop

-- a file is refused that was to be taken to its end: it isn't opened, or the input fails behind its
-- header, or the bytes there are no packets of it
abbrev pub RefusesFile : Option ℕ → ℕ → Stream → Stream → Refusal → Type 0
RefusesFile draws most input input_now Memory = LacksMemory draws most input input_now
RefusesFile draws most input input_now (File fault) =
    RefusesOpening draws input input_now (File fault)
    ⊎ StopsBehind draws most input input_now (stop_by fault)
RefusesFile draws most input input_now (Draws b) = RefusesOpening draws input input_now (Draws b)
RefusesFile draws most input input_now Watch = ⊥
