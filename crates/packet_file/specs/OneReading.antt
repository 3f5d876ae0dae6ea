-- One reading of a packet file: what was taken of the input, and why it stopped.
use Rattle.std.specs.Prelude.{◌≡◌, ◌<◌, ◌≤◌, ℕ, List, [], ◌++◌, length, All}
use Rattle.std.specs.Io.KnownBytes.{Consumes, IsAtEnd}
use Rattle.fec_base.specs.Causes.{Rose}
use Rattle.fec_base.specs.Outside.{Stream}
use Rattle.packet_file.specs.Header.{HeaderFields, IsHeader, header_bytes}
use Rattle.packet_file.specs.Packets.{IsPacketOf, Packet, spelled}
use Rattle.packet_file.specs.Pieces.{IsBroken}
use Rattle.packet_file.specs.Faults.{HasHeaderFault, HasPacketFault}
use Rattle.packet_file.specs.declared.fault.FileFault.{FileFault}
use Rattle.packet_file.specs.declared.fault.FileFault.TheVariants.{ReadFault}

-- why a reading stops: the input is at its end, no more is wanted, the input failed, or its bytes
-- have this fault
pub data Stop : Type 0 where
  End : Stop
  Enough : Stop
  Failed : Stop
  Bad : FileFault → Stop

-- why it stops by what a call answers: a failed read is no fault of the bytes
abbrev pub stop_by : FileFault → Stop
stop_by ReadFault = Failed
stop_by fault = Bad fault

-- the bytes that were taken are no packet number `index` of at most `most`, with this fault; they
-- break off only where the input ended
abbrev pub IsBadPiece : HeaderFields → ℕ → ℕ → Stream → List ℕ → FileFault → Type 0
IsBadPiece h most index input_now piece fault = HasPacketFault h index most piece fault
    × (IsBroken h index most piece → IsAtEnd input_now.bytes)

-- behind `index` packets, of at most `most`, this piece was taken, and then the reading stopped
abbrev pub StopsAt : HeaderFields → ℕ → ℕ → Stream → Stream → List ℕ → Stop → Type 0
StopsAt h most index input input_now piece End = (piece ≡ []) × IsAtEnd input_now.bytes
StopsAt h most index input input_now piece Enough = piece ≡ []
StopsAt h most index input input_now piece Failed = Rose input.faults input_now.faults
    × IsBroken h index most piece
StopsAt h most index input input_now piece (Bad fault) =
    IsBadPiece h most index input_now piece fault

-- behind the bytes `opened` packets of the file were taken, at most `most`, and then a piece, and
-- the reading stopped
pub record Reads (h : HeaderFields) (opened : List ℕ) (most : ℕ) (input input_now : Stream)
    (packets : List Packet) (stop : Stop) : Type 0 where
  pub each : All (IsPacketOf h) packets
  pub few : length packets ≤ most
  pub piece : List ℕ
  pub taken : Consumes input.bytes input_now.bytes (opened ++ (spelled h packets ++ piece))
  pub stopped : StopsAt h most (length packets) input input_now piece stop

-- a packet file was read: its header, and then its packets
pub record ReadsFile (most : ℕ) (input input_now : Stream) (h : HeaderFields)
    (packets : List Packet) (stop : Stop) : Type 0 where
  pub header : IsHeader h
  pub reads : Reads h (header_bytes h) most input input_now packets stop

-- no header was read, since the input failed within it, or its bytes are none, with this fault;
-- they are fewer than a header has only where the input ended
abbrev pub LacksHeader : Stream → Stream → Stop → Type 0
LacksHeader input input_now End = ⊥
LacksHeader input input_now Enough = ⊥
LacksHeader input input_now Failed = Rose input.faults input_now.faults
    × (piece : List ℕ) × Consumes input.bytes input_now.bytes piece × (length piece < 26)
LacksHeader input input_now (Bad fault) =
    (piece : List ℕ) × Consumes input.bytes input_now.bytes piece × HasHeaderFault piece fault
    × (length piece < 26 → IsAtEnd input_now.bytes)
