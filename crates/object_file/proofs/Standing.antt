-- Where a run stands, with one packet more.
use Rattle.std.proofs.Common.{◌≡◌, ℕ, ◌<◌, Bool, true, List, [], ◌∷◌, ◌++◌, length}
use Rattle.std.proofs.Common.{slice_index_or, Option, ⊎_elim, sym, ◌∙◌}
use Rattle.std.proofs.Common.{subst, arith, append-nil, length-append, eq-or-lt_of_le}
use Rattle.std.specs.Io.KnownBytes.{Consumes}
use Rattle.std.proofs.KnownBytes.{Consumes-nil, Consumes-trans}
use Rattle.std.proofs.lemmas.List.{take-append-le, take_all}
use Rattle.std.proofs.lemmas.List.Elements.{All-nil, All-push}
use Rattle.fec_base.specs.Told.{GrowsTold, Telling}
use Rattle.sparse_rows.specs.Matrix.{Matrix}
use Rattle.peeling.specs.Decoder.{Decoder}
use Rattle.fec_session.specs.Forced.{RebuildsBy, RebuiltAreForced}
use Rattle.fec_session.specs.Session.{TellsFront, rebuilt}
use Rattle.packet_file.specs.Header.{HeaderFields}
use Rattle.packet_file.proofs.Readings.{spelled_more}
use Rattle.packet_file.specs.Packets.{packet_bytes}
use Rattle.object_file.specs.Received.{arrivals_of}
use Rattle.packet_file.specs.Packets.{IsPacketOf, Packet, spelled}
use Rattle.object_file.specs.Receiving.{AreCores, TakesPacket}
use Rattle.object_file.specs.Told.{AreTaken, IsWhole, StandsAt, StandsWithin, TellsOf, told_places}
use Rattle.object_file.proofs.Cores.{new_is, new_len, new_matrix, old_stands}
use Rattle.object_file.proofs.Telling.{tells_all, tells_front, tells_none}
use Rattle.object_file.proofs.Telling.{told_places_more}

module _ (h : HeaderFields) (code : ℕ → Matrix) (early : Bool) (most : ℕ) where
  -- no packet was taken yet
  taken_none : AreTaken h code early most []
  taken_none = record {
    each = All-nil (IsPacketOf h);
    few = omega arith;
    least = λ is i lt. absurd (omega (arith, lt));
  }

  -- one more, where more was wanted
  taken_more : (packets : List Packet) (p : Packet) → AreTaken h code early most packets
      → IsPacketOf h p → length packets < most → (early ≡ true → ¬ IsWhole h code packets)
      → AreTaken h code early most (packets ++ p ∷ [])
  taken_more packets p are of_file few wanted = record {
    each = All-push (IsPacketOf h) packets p are.each of_file;
    few = omega (arith, few, length-append packets (p ∷ []));
    least = λ is i lt. ⊎_elim
        (λ (same : i ≡ length packets). subst (λ l. ¬ IsWhole h code l)
        (sym (take-append-le i packets (p ∷ []) (omega (arith, same))
        ∙ take_all i packets (omega (arith, same)))) (wanted is))
        (λ (less : i < length packets). subst (λ l. ¬ IsWhole h code l)
        (sym (take-append-le i packets (p ∷ []) (omega (arith, less)))) (are.least is i less))
        (eq-or-lt_of_le (omega (arith, lt, length-append packets (p ∷ []))));
  }

  -- a run stands at no packet
  pub stands_none : (left : Option (List ℕ)) (told : Option (List Telling))
      → StandsAt h code early most left left told told [] []
  stands_none left told = record {
    packets_are = taken_none;
    taken = Consumes-nil left;
    told_of = tells_none code h.oti.symbol told;
  }

  -- and then one packet more, of which is told whatever it makes known, or a front of it
  module _ (forced : RebuiltAreForced) (left mid now : Option (List ℕ))
      (told told_mid told_now : Option (List Telling)) (packets : List Packet)
      (decoders decoders_now : List Decoder) (p : Packet)
      (stands : StandsAt h code early most left mid told told_mid packets [])
      (cores : AreCores h code packets decoders) (few : length packets < most)
      (wanted : early ≡ true → ¬ IsWhole h code packets)
      (takes : TakesPacket mid now h decoders decoders_now p) where
    its : AreTaken h code early most (packets ++ p ∷ [])
    its = taken_more packets p stands.packets_are takes.of_file few wanted

    bytes : Consumes left now (spelled h (packets ++ p ∷ []))
    bytes = subst (Consumes left now) (sym (spelled_more h packets p))
        (Consumes-trans left mid now (spelled h packets) (packet_bytes h p)
        (subst (Consumes left mid) (append-nil (spelled h packets)) stands.taken) takes.taken)

    rebuilds : RebuildsBy takes.received.now (arrivals_of p.0.sbn packets) p.0.esi p.1
    rebuilds = forced _ takes.received.now (arrivals_of p.0.sbn packets) p.0.esi p.1
        (old_stands mid now h code packets decoders decoders_now p cores takes)
        (takes.received.received takes.received.now)

    new_at : (d : Decoder) → slice_index_or decoders_now p.0.sbn d ≡ takes.received.now
    new_at d = new_is mid now h code packets decoders decoders_now p cores takes d

    pub stands_more : ((d : Decoder)
        → GrowsTold told_mid told_now (rebuilt p.0.sbn (slice_index_or decoders_now p.0.sbn d)))
        → StandsAt h code early most left now told told_now (packets ++ p ∷ []) []
    stands_more grown = record {
      packets_are = its;
      taken = subst (Consumes left now) (sym (append-nil (spelled h (packets ++ p ∷ [])))) bytes;
      told_of = subst (λ l. TellsOf code h.oti.symbol (packets ++ p ∷ []) l told told_now)
          (sym (told_places_more code packets p))
          (tells_all code h.oti.symbol packets p takes.received.now
          (new_matrix mid now h code packets decoders decoders_now p cores takes)
          (new_len mid now h code packets decoders decoders_now p cores takes) rebuilds
          (told_places code packets) told told_mid told_now stands.told_of
          (subst (λ (d : Decoder). GrowsTold told_mid told_now (rebuilt p.0.sbn d))
          (new_at takes.received.now) (grown takes.received.now)));
    }

    pub stands_within : (count : ℕ)
        → ((d : Decoder) → TellsFront told_mid told_now p.0.sbn (slice_index_or decoders_now p.0.sbn
        d) count) → StandsWithin h code early most left now told told_now packets p count
    stands_within count front =
        let own = subst (λ (d : Decoder). TellsFront told_mid told_now p.0.sbn d count)
        (new_at takes.received.now) (front takes.received.now) in
        let part = tells_front code h.oti.symbol packets p takes.received.now
        (new_matrix mid now h code packets decoders decoders_now p cores takes)
        (new_len mid now h code packets decoders decoders_now p cores takes) rebuilds
        (told_places code packets) told told_mid told_now stands.told_of count own.0 own.1 in
        record { packets_are = its; taken = bytes; part = part.0; told_of = part.1 }
