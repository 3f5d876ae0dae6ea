-- A reading, packet by packet.
use Rattle.std.proofs.Common.{◌≡◌, ℕ, ◌≤◌, List, [], ◌∷◌, ◌++◌, length, refl, sym, ap, ◌∙◌}
use Rattle.std.proofs.Common.{subst, arith, append-nil, length-append}
use Rattle.std.specs.Io.KnownBytes.{Consumes}
use Rattle.std.proofs.KnownBytes.{Consumes-nil, Consumes-trans}
use Rattle.std.proofs.lemmas.List.Concat.{flat_map-append}
use Rattle.std.proofs.lemmas.List.Elements.{All-nil, All-push}
use Rattle.fec_base.specs.Outside.{Stream}
use Rattle.packet_file.specs.Header.{HeaderFields}
use Rattle.packet_file.specs.Packets.{IsPacketOf, Packet, packet_bytes, spelled}
use Rattle.packet_file.specs.OneReading.{Reads, Stop, StopsAt}
use Rattle.packet_file.specs.OnePacket.{StopsBefore}
use Rattle.packet_file.specs.TakenPacket.{TakesPacketOf}
use Rattle.packet_file.specs.OneReading.Stop.{End, Enough, Failed, Bad}

-- the bytes of packets, with one more
pub spelled_more : (h : HeaderFields) (packets : List Packet) (p : Packet)
    → spelled h (packets ++ p ∷ []) ≡ spelled h packets ++ packet_bytes h p
spelled_more h packets p = flat_map-append (packet_bytes h) packets (p ∷ [])
    ∙ ap (λ l. spelled h packets ++ l) (append-nil (packet_bytes h p))

-- what stops a reading stops one that began before
pub stops_since : (h : HeaderFields) (most index : ℕ) (input mid now : Stream) (piece : List ℕ)
    (stop : Stop) → input.faults ≤ mid.faults → StopsAt h most index mid now piece stop
    → StopsAt h most index input now piece stop
stops_since h most index input mid now piece End later stops = stops
stops_since h most index input mid now piece Enough later stops = stops
stops_since h most index input mid now piece Failed later stops =
    (omega (arith, stops.0, later), stops.1)
stops_since h most index input mid now piece (Bad fault) later stops = stops

module _ (h : HeaderFields) (most : ℕ) where
  -- nothing was read yet
  pub reads_none : (input : Stream) → Reads h [] most input input [] Enough
  reads_none input = record {
    each = All-nil (IsPacketOf h);
    few = omega arith;
    piece = [];
    taken = Consumes-nil input.bytes;
    stopped = refl;
  }

  -- one packet more
  pub reads_more : (input mid now : Stream) (packets : List Packet) (index : ℕ) (p : Packet)
      → Reads h [] most input mid packets Enough → length packets ≡ index
      → TakesPacketOf h most index mid now p
      → Reads h [] most input now (packets ++ p ∷ []) Enough
  reads_more input mid now packets index p r counted one =
      let before : Consumes input.bytes mid.bytes (spelled h packets) =
      subst (Consumes input.bytes mid.bytes) (append-nil (spelled h packets))
      (subst (λ l. Consumes input.bytes mid.bytes (spelled h packets ++ l)) r.stopped r.taken) in
      let all : spelled h packets ++ packet_bytes h p ≡ spelled h (packets ++ p ∷ []) ++ [] =
      sym (spelled_more h packets p) ∙ sym (append-nil (spelled h (packets ++ p ∷ []))) in
      record {
        each = All-push (IsPacketOf h) packets p r.each one.packet;
        few = omega (arith, one.within, counted, length-append packets (p ∷ []));
        piece = [];
        taken = subst (Consumes input.bytes now.bytes) all
            (Consumes-trans input.bytes mid.bytes now.bytes (spelled h packets)
            (packet_bytes h p) before one.taken);
        stopped = refl;
      }

  -- and then it stops
  pub reads_stop : (input mid now : Stream) (packets : List Packet) (index : ℕ) (stop : Stop)
      → Reads h [] most input mid packets Enough → length packets ≡ index
      → input.faults ≤ mid.faults → StopsBefore h most index mid now stop
      → Reads h [] most input now packets stop
  reads_stop input mid now packets index stop r counted later (piece, taken, stops) =
      let before : Consumes input.bytes mid.bytes (spelled h packets) =
      subst (Consumes input.bytes mid.bytes) (append-nil (spelled h packets))
      (subst (λ l. Consumes input.bytes mid.bytes (spelled h packets ++ l)) r.stopped r.taken) in
      record {
        each = r.each;
        few = r.few;
        piece = piece;
        taken = Consumes-trans input.bytes mid.bytes now.bytes (spelled h packets) piece before
            taken;
        stopped = stops_since h most (length packets) input mid now piece stop later
            (subst (λ (i : ℕ). StopsAt h most i mid now piece stop) (sym counted) stops);
      }

  -- what is read behind bytes that were taken
  pub reads_behind : (opened : List ℕ) (input mid now : Stream) (packets : List Packet)
      (stop : Stop) → Consumes input.bytes mid.bytes opened → input.faults ≤ mid.faults
      → Reads h [] most mid now packets stop → Reads h opened most input now packets stop
  reads_behind opened input mid now packets stop taken later r = record {
    each = r.each;
    few = r.few;
    piece = r.piece;
    taken = Consumes-trans input.bytes mid.bytes now.bytes opened (spelled h packets ++ r.piece)
        taken r.taken;
    stopped = stops_since h most (length packets) input mid now r.piece stop later r.stopped;
  }
