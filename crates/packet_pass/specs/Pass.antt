-- One pass over a packet file: what was read of the input and what was written, however it ends.
use Rattle.std.specs.Prelude.{◌≡◌, ◌<◌, ◌⊎◌, ⊤, ℕ, Bool, List, [], ◌∷◌, ◌++◌, length, take, All}
use Rattle.std.specs.Prelude.{if◌then◌else◌}
use Rattle.std.specs.List.{enumerate_from, flat_map}
use Rattle.fec_base.specs.Outside.{Stream}
use Rattle.loss_patterns.specs.Keeps.{keeps}
use Rattle.loss_patterns.specs.declared.kind.LossKind.{LossKind}
use Rattle.loss_patterns.specs.declared.kind.LossKind.TheVariants as loss
use Rattle.packet_file.specs.Header.{HeaderFields, header_bytes}
use Rattle.packet_file.specs.Packets.{Packet, packet_bytes}
use Rattle.packet_file.specs.Files.{HasZeroPadding, upgraded}
use Rattle.packet_file.specs.OneReading.{LacksHeader, ReadsFile, stop_by}
use Rattle.packet_file.specs.OneReading.Stop.{End, Enough}
use Rattle.packet_file.specs.declared.fault.FileFault.{FileFault}
use Rattle.packet_file.specs.declared.fault.FileFault.TheVariants.{BadPadding}
use Rattle.packet_pass.specs.Lines.{header_line, packet_line}
use Rattle.packet_pass.specs.Thinned.{kept_of}
use Rattle.packet_pass.specs.declared.kind.Pass.{Pass}
use Rattle.packet_pass.specs.declared.kind.Pass.TheVariants.{Lose, Show, Upgrade}
use Rattle.packet_pass.specs.declared.kind.Passed.{Passed}
use Rattle.packet_pass.specs.declared.kind.PassRefusal.{PassRefusal}
use Rattle.packet_pass.specs.declared.kind.PassRefusal.TheVariants.{Memory, File, Output}

-- the loss of a pass; who shows or upgrades keeps all
abbrev pub loss_in : Pass → LossKind
loss_in (Lose kind seed) = kind
loss_in Show = loss.None
loss_in Upgrade = loss.None

-- the state that the draws of a pass begin with; who shows or upgrades draws nothing
abbrev pub seed_in : Pass → ℕ
seed_in (Lose kind seed) = seed
seed_in Show = 1
seed_in Upgrade = 1

-- what a pass writes of the header
abbrev pub head_of : Pass → HeaderFields → List ℕ
head_of (Lose kind seed) h = header_bytes h
head_of Show h = header_line h
head_of Upgrade h = header_bytes (upgraded h)

-- the bytes, where they are kept
abbrev pub kept_in : Bool → List ℕ → List ℕ
kept_in keep bytes = if keep then bytes else []

-- what a pass writes of packet i, counted from 0
abbrev pub text_of : Pass → HeaderFields → ℕ → Packet → List ℕ
text_of (Lose kind seed) h i p = kept_in (keeps kind seed i) (packet_bytes h p)
text_of Show h i p = packet_line h i p
text_of Upgrade h i p = packet_bytes (upgraded h) p

-- what a pass writes of packets, from number `first` on
abbrev pub texts_from : Pass → HeaderFields → ℕ → List Packet → List ℕ
texts_from pass h first packets =
    flat_map (λ (p : ℕ × Packet). text_of pass h p.0 p.1) (enumerate_from first packets)

-- what a pass writes of the first packets
abbrev pub texts : Pass → HeaderFields → List Packet → List ℕ
texts pass h packets = texts_from pass h 0 packets

-- the packets that a pass can pass on: who upgrades leaves the padding out, which has to be zero
abbrev pub IsFitFor : Pass → HeaderFields → Packet → Type 0
IsFitFor (Lose kind seed) h p = ⊤
IsFitFor Show h p = ⊤
IsFitFor Upgrade h p = HasZeroPadding h p

-- the whole input was a packet file of at most `most` packets, each of which the pass can pass on,
-- and this is its text
pub record PassesWhole (pass : Pass) (most : ℕ) (input input_now : Stream) (passed : Passed)
    (out : List ℕ) : Type 0 where
  pub header : HeaderFields
  pub packets : List Packet
  pub reads : ReadsFile most input input_now header packets End
  pub fit : All (IsFitFor pass header) packets
  pub text : out ≡ head_of pass header ++ texts pass header packets
  pub counted : passed.packets ≡ length packets
  pub kept : passed.kept ≡ kept_of (loss_in pass) (seed_in pass) passed.packets

-- a front of the text of the header, behind which nothing was taken
abbrev pub CutsHead : Pass → ℕ → Stream → Stream → HeaderFields → List ℕ → Type 0
CutsHead pass most input input_now h out = ReadsFile most input input_now h [] Enough
    × ((n : ℕ) × (n < length (head_of pass h)) × (out ≡ take n (head_of pass h)))

-- the texts of packets, and a front of the text of the next one, which is the last that was taken
abbrev pub CutsPacket : Pass → ℕ → Stream → Stream → HeaderFields → List ℕ → Type 0
CutsPacket pass most input input_now h out = (before : List Packet) × (last : Packet)
    × ReadsFile most input input_now h (before ++ last ∷ []) Enough
    × All (IsFitFor pass h) (before ++ last ∷ [])
    × ((n : ℕ) × (n < length (text_of pass h (length before) last))
    × (out ≡ head_of pass h
    ++ (texts pass h before ++ take n (text_of pass h (length before) last))))

-- the texts of the packets before a fault of the input
abbrev pub EndsAtFault : Pass → ℕ → Stream → Stream → FileFault → List ℕ → Type 0
EndsAtFault pass most input input_now fault out = (h : HeaderFields) × (packets : List Packet)
    × ReadsFile most input input_now h packets (stop_by fault) × All (IsFitFor pass h) packets
    × (out ≡ head_of pass h ++ texts pass h packets)

-- the texts of the packets before the first one that the pass can't pass on, which is the last that
-- was taken
abbrev pub EndsUnfit : Pass → ℕ → Stream → Stream → FileFault → List ℕ → Type 0
EndsUnfit pass most input input_now fault out = (h : HeaderFields) × (before : List Packet)
    × (last : Packet) × ReadsFile most input input_now h (before ++ last ∷ []) Enough
    × All (IsFitFor pass h) before × (¬ IsFitFor pass h last)
    × (fault ≡ BadPadding (length before)) × (out ≡ head_of pass h ++ texts pass h before)

-- what a pass wrote that ended before the end of the input: nothing, for want of memory; the texts
-- of the packets before a fault of the input or before one that can't be passed on; or what the
-- output took before it failed
abbrev pub PassEnds : Pass → ℕ → Stream → Stream → PassRefusal → List ℕ → Type 0
PassEnds pass most input input_now Memory out =
    (out ≡ []) × ((h : HeaderFields) × ReadsFile most input input_now h [] Enough)
PassEnds pass most input input_now (File fault) out =
    ((out ≡ []) × LacksHeader input input_now (stop_by fault))
    ⊎ (EndsAtFault pass most input input_now fault out
    ⊎ EndsUnfit pass most input input_now fault out)
PassEnds pass most input input_now Output out = (h : HeaderFields)
    × (CutsHead pass most input input_now h out ⊎ CutsPacket pass most input input_now h out)
