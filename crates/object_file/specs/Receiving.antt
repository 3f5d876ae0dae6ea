-- How the packets of a file are received.
use Rattle.std.specs.Io.KnownBytes.{Consumes}
use Rattle.std.specs.Prelude.{Bool, List, Option, [], length, slice_index_or, suc, zero, ℕ, ⊤, ◌++◌}
use Rattle.std.specs.Prelude.{◌<◌, ◌∷◌, ◌≡◌}
use Rattle.fec_base.specs.Told.{Telling}
use Rattle.fec_session.specs.Session.{ReceivesAt}
use Rattle.fec_session.specs.declared.outcome.Outcome.{Outcome}
use Rattle.packet_file.specs.Header.{HeaderFields, IsHeader, header_bytes, source_counts}
use Rattle.packet_file.specs.Packets.{IsPacketOf, Packet, block_symbols, packet_bytes}
use Rattle.packet_file.specs.OneReading.{LacksHeader, stop_by}
use Rattle.peeling.specs.Decoder.{Decoder}
use Rattle.peeling.specs.Stands.{StandsFor}
use Rattle.sparse_rows.specs.Matrix.{Matrix}
use Rattle.object_file.specs.Codes.{IsFirstOver, count_at}
use Rattle.fec_base.specs.Outside.{Stream}
use Rattle.object_file.specs.Received.{arrivals_of}
use Rattle.object_file.specs.Told.{IsOver, Opens, StandsAt}
use Rattle.tool_base.specs.declared.causes.Refusal.{Refusal}
use Rattle.tool_base.specs.declared.causes.Refusal.TheVariants.{Draws, File, Memory, Watch}
use Rattle.fec_session.specs.declared.outcome.Outcome.TheVariants as outcome

-- some bytes were taken from the front of the input, and stand behind those that were there
pub record TakesBehind (left left_now : Option (List ℕ)) (before after : List ℕ) : Type 0 where
  pub bytes : List ℕ
  pub taken : Consumes left left_now bytes
  pub behind : after ≡ before ++ bytes

-- where a block has a source, it is one of k symbols
abbrev pub HoldsCount : ℕ → Outcome → Type 0
HoldsCount k outcome.NoCodeword = ⊤
HoldsCount k (outcome.Block block) = length block.source ≡ k
HoldsCount k (outcome.Undetermined word) = ⊤

-- the block has a source of k symbols
abbrev pub HasSource : ℕ → Outcome → Type 0
HasSource k outcome.NoCodeword = ⊥
HasSource k (outcome.Block block) = length block.source ≡ k
HasSource k (outcome.Undetermined word) = ⊥

-- each block has a source, of as many symbols as the header says
abbrev pub HaveSource : HeaderFields → List Outcome → Type 0
HaveSource h outcomes = (b : ℕ) (o : Outcome) → b < length outcomes
    → HasSource (count_at h b) (slice_index_or outcomes b o)

-- the matrix of a block's decoder
abbrev pub matrix_at : List Decoder → ℕ → Matrix
matrix_at [] b = record { k = 0; n = 0; rows = [] }
matrix_at (d ∷ decoders) zero = d.matrix
matrix_at (d ∷ decoders) (suc b) = matrix_at decoders b

-- each decoder stands for what arrived for its block
abbrev pub StandForAll : List Packet → List Decoder → Type 0
StandForAll packets decoders = (b : ℕ) (d : Decoder) → b < length decoders
    → StandsFor (slice_index_or decoders b d) (arrivals_of b packets)

-- the decoders of the file's blocks, by these matrices, which received these packets
pub record AreCores (h : HeaderFields) (code : ℕ → Matrix) (packets : List Packet)
    (decoders : List Decoder) : Type 0 where
  pub counted : length decoders ≡ length (source_counts h)
  pub matrix : (b : ℕ) (d : Decoder) → b < length decoders
      → (slice_index_or decoders b d).matrix ≡ code b
  pub sources : (b : ℕ) → b < length decoders → (code b).k ≡ count_at h b
  pub symbols : (b : ℕ) → b < length decoders → (code b).n ≡ block_symbols h b
  pub len : (b : ℕ) (d : Decoder) → b < length decoders
      → (slice_index_or decoders b d).len ≡ h.oti.symbol
  pub stand : StandForAll packets decoders

-- a packet was taken from the input, and the decoder of its block received it
pub record TakesPacket (left left_now : Option (List ℕ)) (h : HeaderFields)
    (decoders decoders_now : List Decoder) (packet : Packet) : Type 0 where
  pub of_file : IsPacketOf h packet
  pub taken : Consumes left left_now (packet_bytes h packet)
  pub received : ReceivesAt decoders decoders_now packet.0.sbn packet.0.esi packet.1

-- the packets of the input were taken to the last, `count` of them, by decoders of the file's
-- blocks
pub record IsReceived (draws : Option ℕ) (early : Bool) (most : ℕ)
    (left left_now : Option (List ℕ)) (told told_now : Option (List Telling)) (h : HeaderFields)
    (decoders : List Decoder) (count : ℕ) : Type 0 where
  pub code : ℕ → Matrix
  pub packets : List Packet
  pub mid : Option (List ℕ)
  pub opens : Opens draws left mid h code
  pub stands : StandsAt h code early most mid left_now told told_now packets []
  pub over : IsOver early left_now h code packets
  pub cores : AreCores h code packets decoders
  pub counted : count ≡ length packets
