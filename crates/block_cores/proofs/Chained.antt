-- The decoders of a file's blocks, once packets were taken in one after the other.
use Rattle.std.proofs.Common.{All, List, None, [], suc, append-nil, append_assoc, arith, drop}
use Rattle.std.proofs.Common.{length, length-drop, subst, sym, take, ℕ, ◌+◌, ◌++◌, ◌-◌, ◌∷◌}
use Rattle.std.proofs.Common.{ap, get_or, slice_set, subst₂, ◌<◌, ◌≡◌, ◌∙◌}
use Rattle.std.proofs.lemmas.List.{get_or_default, take_all}
use Rattle.fec_session.specs.Session.{ReceivesAt}
use Rattle.oti_fields.specs.declared.identifier.PacketId.{PacketId}
use Rattle.packet_file.specs.Header.{HeaderFields}
use Rattle.packet_file.specs.Packets.{IsPacketOf, Packet}
use Rattle.packet_intake.specs.Intake.{Each, Wanting}
use Rattle.packet_intake.specs.Pieces.{IsPacketBytes}
use Rattle.peeling.specs.Decoder.{Decoder}
use Rattle.peeling.specs.Stands.{Receives}
use Rattle.sparse_rows.specs.Matrix.{Matrix}
use Rattle.object_file.specs.Receiving.{AreCores, TakesPacket}
use Rattle.object_file.proofs.Cores.{cores_more}
use Rattle.block_cores.specs.Cores.{AreBlocks}

-- one packet of the file that its block's decoder received
abbrev pub takes : List Decoder → ℕ → Packet → List Decoder → Type 0
takes old index p new = ReceivesAt old new p.0.sbn p.0.esi p.1

one_taken : (h : HeaderFields) (old new : List Decoder) (p : Packet) → IsPacketOf h p
    → ReceivesAt old new p.0.sbn p.0.esi p.1 → TakesPacket None None h old new p
one_taken h old new p of_file received =
    record { of_file = of_file; taken = tt; received = received }

-- packets, one after the other
pub all_taken : (h : HeaderFields) (code : ℕ → Matrix) (before packets : List Packet) (first : ℕ)
    (old new : List Decoder) → AreCores h code before old → All (IsPacketOf h) packets
    → Each (Wanting (λ (_ : List Decoder). ⊥) takes) old first packets new
    → AreCores h code (before ++ packets) new
all_taken h code before [] first old new cores each same =
    subst (λ (l : List Packet). AreCores h code l new) (sym (append-nil before))
    (subst (AreCores h code before) (sym same) cores)
all_taken h code before (p ∷ packets) first old new cores each (mid, (free, received), rest) =
    subst (λ (l : List Packet). AreCores h code l new) (append_assoc before (p ∷ []) packets)
    (all_taken h code (before ++ p ∷ []) packets (first + 1) mid new
    (cores_more None None h code before old mid p cores
    (one_taken h old mid p (each 0 p (omega arith)) received))
    (λ i d lt. each (suc i) d (omega (arith, lt))) rest)

-- the decoder of the packet's block received its symbol, which is behind the identifier
pub symbol_received : (old items : List Decoder) (id : PacketId) (bytes : List ℕ)
    (core new : Decoder) → items ≡ old
    → (h : HeaderFields) × AreBlocks h old × IsPacketBytes h id bytes
    → core ≡ get_or items id.sbn core
    → Receives core new id.esi (take (length bytes - 4) (drop 4 bytes))
    → ReceivesAt old (slice_set items id.sbn new) id.sbn id.esi (drop 4 bytes)
symbol_received old items id bytes core new same (h, (code, packets, cores), is) at received =
    record {
      now = new;
      received = λ d.
          let inside : id.sbn < length old = omega (arith, is.packet.id.block, cores.counted) in
          let here : core ≡ get_or old id.sbn d = at
          ∙ ap (λ (l : List Decoder). get_or l id.sbn core) same
          ∙ get_or_default old id.sbn core d inside in
          subst₂ (λ (x : Decoder) (symbol : List ℕ). Receives x new id.esi symbol) here
          (take_all (length bytes - 4) (drop 4 bytes) (omega (arith, length-drop 4 bytes))) received;
      set = ap (λ (l : List Decoder). slice_set l id.sbn new) same;
    }

-- there is a place for each packet of the file still
pub fits_more : (old new : List Decoder) (id : PacketId) (bytes : List ℕ)
    → ReceivesAt old new id.sbn id.esi (drop 4 bytes) → (h : HeaderFields) → AreBlocks h old
    → IsPacketBytes h id bytes → AreBlocks h new
fits_more old new id bytes received h (code, packets, cores) is = (
  code,
  packets ++ (id, drop 4 bytes) ∷ [],
  cores_more None None h code packets old new (id, drop 4 bytes) cores
      (one_taken h old new (id, drop 4 bytes) is.packet received),
)
