-- One packet that is taken in.
use Rattle.std.proofs.Common.{ℕ, List, None, [], arith, drop, length, length-drop, subst, take}
use Rattle.std.proofs.Common.{◌++◌, ◌-◌, ◌∷◌}
use Rattle.std.proofs.lemmas.List.{take_all}
use Rattle.fec_session.specs.Session.{ReceivesAt}
use Rattle.oti_fields.specs.declared.identifier.PacketId.{PacketId}
use Rattle.packet_file.specs.Header.{HeaderFields}
use Rattle.packet_intake.specs.Pieces.{IsPacketBytes}
use Rattle.peeling.specs.Decoder.{Decoder}
use Rattle.object_file.proofs.Cores.{cores_more}
use Rattle.object_file.specs.Receiving.{TakesPacket}
use Rattle.object_file.specs.Takers.{IsOfFile}
use Rattle.object_file.specs.declared.reception.Taking.{Taking}

-- the bytes behind the identifier are the symbol that the decoder of its block received
pub symbol_received : (decoders decoders_now : List Decoder) (id : PacketId) (bytes : List ℕ)
    → ReceivesAt decoders decoders_now id.sbn id.esi (take (length bytes - 4) (drop 4 bytes))
    → ReceivesAt decoders decoders_now id.sbn id.esi (drop 4 bytes)
symbol_received decoders decoders_now id bytes received =
    subst (ReceivesAt decoders decoders_now id.sbn id.esi)
    (take_all (length bytes - 4) (drop 4 bytes) (omega (arith, length-drop 4 bytes))) received

-- it has a place for each packet of the file still
pub fits_more : {W : Type 0} (old new : Taking W) (id : PacketId) (bytes : List ℕ)
    → ReceivesAt old.receiver.cores new.receiver.cores id.sbn id.esi
    (take (length bytes - 4) (drop 4 bytes)) → (h : HeaderFields) → IsOfFile h old
    → IsPacketBytes h id bytes → IsOfFile h new
fits_more {W} old new id bytes received h (code, packets, cores) is =
    let taken : TakesPacket None None h old.receiver.cores new.receiver.cores (id, drop 4 bytes) =
    record {
      of_file = is.packet;
      taken = tt;
      received = symbol_received old.receiver.cores new.receiver.cores id bytes received;
    } in (
      code,
      packets ++ (id, drop 4 bytes) ∷ [],
      cores_more None None h code packets old.receiver.cores new.receiver.cores
          (id, drop 4 bytes) cores taken,
    )
