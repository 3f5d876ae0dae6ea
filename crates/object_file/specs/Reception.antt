-- Why a packet file is not received to the last.
use Rattle.std.specs.Io.KnownBytes.{Consumes}
use Rattle.std.specs.Prelude.{Bool, List, Option, [], length, true, ℕ}
use Rattle.std.specs.Prelude.{◌≡◌, ◌≤◌, ◌⊎◌}
use Rattle.fec_base.specs.Causes.{Rose}
use Rattle.fec_base.specs.Told.{KeepsTold, Telling}
use Rattle.packet_file.specs.Header.{HeaderFields, IsHeader, header_bytes}
use Rattle.packet_file.specs.Packets.{Packet}
use Rattle.packet_file.specs.OneReading.{LacksHeader, StopsAt, stop_by}
use Rattle.packet_file.specs.declared.fault.FileFault.{FileFault}
use Rattle.sparse_rows.specs.Matrix.{Matrix}
use Rattle.object_file.specs.Codes.{IsFirstOver}
use Rattle.fec_base.specs.Outside.{Hearing, Stream, stream}
use Rattle.object_file.specs.Told.{IsOver, IsWhole, Opens, StandsAt, StandsWithin}
use Rattle.tool_base.specs.declared.causes.Refusal.{Refusal}
use Rattle.tool_base.specs.declared.causes.Refusal.TheVariants.{Draws, File, Memory, Watch}

-- at most a header's bytes were taken, and nothing was told
abbrev pub TakesHeader : Option (List ℕ) → Option (List ℕ) → Option (List Telling)
    → Option (List Telling) → Type 0
TakesHeader left left_now told told_now = (bytes : List ℕ) × Consumes left left_now bytes
    × (length bytes ≤ 26) × KeepsTold told told_now

-- memory lacked before a byte behind the header was taken, or once the last packet was taken
abbrev pub LacksMemory : Option ℕ → Bool → ℕ → Stream → Stream → Hearing → Hearing → Type 0
LacksMemory draws early most input input_now watch watch_now =
    TakesHeader input.bytes input_now.bytes watch.told watch_now.told
    ⊎ ((h : HeaderFields) × (code : ℕ → Matrix) × (packets : List Packet)
    × (mid : Option (List ℕ)) × Opens draws input.bytes mid h code
    × StandsAt h code early most mid input_now.bytes watch.told watch_now.told packets []
    × IsOver early input_now.bytes h code packets)

-- a header is refused, with nothing told: the input failed within it, or the bytes are none
abbrev pub FailsBefore : Stream → Stream → Hearing → Hearing → FileFault → Type 0
FailsBefore input input_now watch watch_now fault = KeepsTold watch.told watch_now.told
    × LacksHeader input input_now (stop_by fault)

-- the packets behind a header are refused, where more was wanted: the input failed within one, the
-- bytes are none, or the watch failed; what came before was told
abbrev pub FailsAtPackets : HeaderFields → (ℕ → Matrix) → Bool → ℕ → Stream → Stream → Hearing
    → Hearing → Refusal → Type 0
FailsAtPackets h code early most input input_now watch watch_now Memory = ⊥
FailsAtPackets h code early most input input_now watch watch_now (File fault) =
    (packets : List Packet) × (piece : List ℕ)
    × StandsAt h code early most input.bytes input_now.bytes watch.told watch_now.told packets piece
    × (early ≡ true → ¬ IsWhole h code packets)
    × StopsAt h most (length packets) input input_now piece (stop_by fault)
FailsAtPackets h code early most input input_now watch watch_now (Draws b) = ⊥
FailsAtPackets h code early most input input_now watch watch_now Watch =
    Rose watch.faults watch_now.faults × (before : List Packet) × (last : Packet) × (count : ℕ)
    × StandsWithin h code early most input.bytes input_now.bytes watch.told watch_now.told
    before last count

-- behind the header of a file whose blocks have their matrices the packets are refused
abbrev pub FailsBehind : Option ℕ → Bool → ℕ → Stream → Stream → Hearing → Hearing → Refusal
    → Type 0
FailsBehind draws early most input input_now watch watch_now refusal =
    (h : HeaderFields) × (code : ℕ → Matrix) × (mid : Option (List ℕ))
    × Opens draws input.bytes mid h code
    × FailsAtPackets h code early most (stream mid input.faults) input_now watch watch_now refusal

-- a `decode` refuses its input
abbrev pub RefusesDecode : Option ℕ → Bool → ℕ → Stream → Stream → Hearing → Hearing → Refusal
    → Type 0
RefusesDecode draws early most input input_now watch watch_now Memory =
    LacksMemory draws early most input input_now watch watch_now
RefusesDecode draws early most input input_now watch watch_now (File fault) =
    FailsBefore input input_now watch watch_now fault
    ⊎ FailsBehind draws early most input input_now watch watch_now (File fault)
RefusesDecode draws early most input input_now watch watch_now (Draws b) = (h : HeaderFields)
    × IsHeader h × Consumes input.bytes input_now.bytes (header_bytes h) × IsFirstOver h draws b
    × KeepsTold watch.told watch_now.told
RefusesDecode draws early most input input_now watch watch_now Watch =
    FailsBehind draws early most input input_now watch watch_now Watch
