-- What is told as packets of an object's file come.
use Rattle.std.proofs.Common.{◌≡◌, ℕ, ◌<◌, List, [], ◌∷◌, ◌++◌, length, take, All, Contains, Option}
use Rattle.std.proofs.Common.{refl, sym, ap, ◌∙◌, subst, append_assoc}
use Rattle.std.proofs.lemmas.List.{take_at}
use Rattle.std.proofs.lemmas.List.Elements.{All-contains, All-take, Contains-push}
use Rattle.fec_base.specs.Told.{Telling, place_of}
use Rattle.sparse_rows.specs.Matrix.{Matrix}
use Rattle.packet_file.specs.Header.{HeaderFields, source_counts}
use Rattle.packet_file.specs.Laws.{HeaderIsOne, PacketIsOne}
use Rattle.packet_file.specs.Packets.{IsPacketOf, Packet}
use Rattle.object_file.specs.Told.{HasCodes, IsToldBy, new_places}
use Rattle.tool_laws.specs.RoundTrip.{AreAmong, AreSent}
use Rattle.tool_laws.proofs.ComesBack.{forced_sent}
use Rattle.tool_laws.proofs.SentPackets.{packet_at}
use Rattle.tool_laws.proofs.ToldBytes.{IsPlaceIn, new_within}

-- each symbol that is told is one of the file's
pub told_sent : HeaderIsOne → PacketIsOne → (h : HeaderFields) (draws limit : Option ℕ)
    (object : List ℕ) (sent came : List Packet) (code : ℕ → Matrix) (t : Telling)
    → AreSent h draws object sent → AreAmong came sent → HasCodes h limit code
    → IsToldBy code h.oti.symbol came t → Contains sent (packet_at t.block t.esi t.bytes)
told_sent header_one packet_one h draws limit object sent came code t are_sent chosen codes told =
    let front : List Packet = told.before ++ told.packet ∷ [] in
    let parts : came ≡ front ++ told.after = told.packets_are
    ∙ sym (append_assoc told.before (told.packet ∷ []) told.after) in
    let among : AreAmong front sent = subst (All (Contains sent)) (ap (take (length front)) parts
    ∙ take_at front told.after (length front) refl) (All-take (Contains sent) (length front)
    came chosen) in
    let last : Contains sent told.packet = All-contains (Contains sent) front told.packet among
    (Contains-push told.before told.packet) in
    let of_file : IsPacketOf h told.packet = All-contains (IsPacketOf h) sent told.packet
    are_sent.packets_are.each last in
    let at : IsPlaceIn code told.packet (place_of t) = All-contains (IsPlaceIn code told.packet)
    (new_places code told.before told.packet) (place_of t)
    (new_within code told.before told.packet) told.place in
    let inside : t.block < length (source_counts h) =
    subst (λ (b : ℕ). b < length (source_counts h)) (sym at.block) of_file.id.block in
    let within : t.esi < (code t.block).n = subst (λ (b : ℕ). t.esi < (code b).n) (sym at.block)
    at.within in
    forced_sent header_one packet_one h draws limit object sent front are_sent among t.block inside
    (code t.block) t.esi t.bytes (codes t.block inside) within told.forced
