-- Inside: how far a pass has come behind the header, packet by packet.
use Rattle.std.specs.Prelude.{◌≡◌, ◌<◌, ◌+◌, ◌⊎◌, ℕ, List, [], ◌∷◌, ◌++◌, length, take, All}
use Rattle.std.specs.Io.KnownBytes.{Appends}
use Rattle.fec_base.specs.Bytes.{AppendsFront}
use Rattle.fec_base.specs.Causes.{Rose}
use Rattle.fec_base.specs.Outside.{Stream}
use Rattle.packet_file.specs.Header.{HeaderFields}
use Rattle.packet_file.specs.Packets.{Packet}
use Rattle.packet_file.specs.Files.{upgraded}
use Rattle.packet_file.specs.OneReading.{Reads, Stop, stop_by}
use Rattle.packet_file.specs.OnePacket.{StopsBefore}
use Rattle.packet_file.specs.TakenPacket.{TakesPacketOf}
use Rattle.packet_file.specs.OneReading.Stop.{Enough}
use Rattle.packet_file.specs.declared.fault.FileFault.{FileFault}
use Rattle.packet_file.specs.declared.fault.FileFault.TheVariants.{BadPadding}
use Rattle.packet_pass.specs.Pass.{IsFitFor, loss_in, seed_in, text_of, texts}
use Rattle.packet_pass.specs.declared.kind.Pass.{Pass}
use Rattle.packet_pass.specs.declared.kind.Pass.TheVariants.{Lose, Show, Upgrade}
use Rattle.packet_pass.specs.declared.kind.PassRefusal.{PassRefusal}
use Rattle.packet_pass.specs.declared.kind.PassRefusal.TheVariants.{Memory, File, Output}
use Rattle.packet_pass.specs.declared.writer.PassWriter.{PassWriter}

-- the header of what a pass writes of a packet file
abbrev pub written_as : Pass → HeaderFields → HeaderFields
written_as (Lose kind seed) h = h
written_as Show h = h
written_as Upgrade h = upgraded h

-- the writer has written so many packets of its pass over a file with this header, and has room for
-- each
pub record HasWritten (h : HeaderFields) (w : PassWriter) (count : ℕ) : Type 0 where
  pub out : w.out ≡ written_as w.pass h
  pub room : w.packet ≡ 6 + w.out.oti.symbol
  pub kind : w.thinning.kind ≡ loss_in w.pass
  pub seed : w.thinning.seed ≡ seed_in w.pass
  pub done : w.thinning.done ≡ count

-- behind a header these packets were read, each of which the pass can pass on, and exactly their
-- texts were written
pub record PassesPackets (pass : Pass) (most : ℕ) (h : HeaderFields)
    (input input_now output output_now : Stream) (packets : List Packet) (stop : Stop)
    : Type 0 where
  pub reads : Reads h [] most input input_now packets stop
  pub fit : All (IsFitFor pass h) packets
  pub written : Appends output.bytes output_now.bytes (texts pass h packets)

-- packet number `index` was taken, and exactly its text was written
pub record PassesOne (pass : Pass) (most : ℕ) (h : HeaderFields) (index : ℕ)
    (input input_now output output_now : Stream) (p : Packet) : Type 0 where
  pub taken : TakesPacketOf h most index input input_now p
  pub fit : IsFitFor pass h p
  pub written : Appends output.bytes output_now.bytes (text_of pass h index p)

-- packet number `index` was taken, and can't be passed on
abbrev pub TakesUnfit : Pass → ℕ → HeaderFields → ℕ → Stream → Stream → FileFault → Type 0
TakesUnfit pass most h index input input_now fault = (p : Packet)
    × TakesPacketOf h most index input input_now p × (¬ IsFitFor pass h p)
    × (fault ≡ BadPadding index)

-- the pass ended within packet number `index`, or before it at a piece that is none, or behind it
-- since it can't be passed on
abbrev pub EndsAtPacket : Pass → ℕ → HeaderFields → ℕ → Stream → Stream → Stream → Stream
    → PassRefusal → Type 0
EndsAtPacket pass most h index input input_now output output_now Memory = ⊥
EndsAtPacket pass most h index input input_now output output_now (File fault) =
    (output_now.bytes ≡ output.bytes)
    × (StopsBefore h most index input input_now (stop_by fault)
    ⊎ TakesUnfit pass most h index input input_now fault)
EndsAtPacket pass most h index input input_now output output_now Output = (p : Packet)
    × TakesPacketOf h most index input input_now p × IsFitFor pass h p
    × AppendsFront output.bytes output_now.bytes (text_of pass h index p)
    × Rose output.faults output_now.faults

-- the texts of these packets were written, and then the output failed within the text of the next
-- one
abbrev pub CutsText : Pass → HeaderFields → List Packet → Packet → Stream → Stream → Type 0
CutsText pass h packets p output output_now = (n : ℕ)
    × (n < length (text_of pass h (length packets) p))
    × Appends output.bytes output_now.bytes
    (texts pass h packets ++ take n (text_of pass h (length packets) p))
    × Rose output.faults output_now.faults

-- behind a header packets were passed on, and then one was taken that can't be
abbrev pub PassesUnfit : Pass → ℕ → HeaderFields → Stream → Stream → Stream → Stream → FileFault
    → Type 0
PassesUnfit pass most h input input_now output output_now fault = (before : List Packet)
    × (last : Packet) × Reads h [] most input input_now (before ++ last ∷ []) Enough
    × All (IsFitFor pass h) before × (¬ IsFitFor pass h last)
    × (fault ≡ BadPadding (length before))
    × Appends output.bytes output_now.bytes (texts pass h before)

-- behind a header the pass ended early; it takes no memory there
abbrev pub EndsEarly : Pass → ℕ → HeaderFields → Stream → Stream → Stream → Stream → PassRefusal
    → Type 0
EndsEarly pass most h input input_now output output_now Memory = ⊥
EndsEarly pass most h input input_now output output_now (File fault) =
    ((packets : List Packet)
    × PassesPackets pass most h input input_now output output_now packets (stop_by fault))
    ⊎ PassesUnfit pass most h input input_now output output_now fault
EndsEarly pass most h input input_now output output_now Output = (before : List Packet)
    × (last : Packet) × Reads h [] most input input_now (before ++ last ∷ []) Enough
    × All (IsFitFor pass h) (before ++ last ∷ [])
    × CutsText pass h before last output output_now
