-- Bytes have one reading as packets and as packet files.
use Rattle.std.proofs.Common.{◌≡◌, ℕ, ◌-◌, ◌<◌, List, [], ◌∷◌, ◌++◌, length, take, drop, get_or}
use Rattle.std.proofs.Common.{All, ◌==◌, if◌then◌else◌}
use Rattle.std.proofs.Common.{refl, sym, ap, ap₂, ◌∙◌, subst, arith, append_assoc}
use Rattle.std.proofs.Common.{take-append-drop, length-append, length-take-le, length-drop}
use Rattle.std.proofs.lemmas.List.{append-nil, drop_at, take_all, take_at}
use Rattle.std.proofs.lemmas.List.Elements.{All-head, All-tail, All-take}
use Rattle.fec_base.specs.Symbol.{zero_symbol}
use Rattle.oti_fields.specs.Fields.{codec_number, id_bytes}
use Rattle.oti_fields.specs.Laws.{FieldsAreOne, IdIsOne, IdIsSpelled}
use Rattle.oti_fields.specs.declared.codec.Codec.{Codec}
use Rattle.oti_fields.specs.declared.codec.Codec.TheVariants.{Staircase, Triangle, Parity2d}
use Rattle.oti_fields.specs.declared.codec.Codec.TheVariants.{Corner2d}
use Rattle.oti_fields.specs.declared.oti.Oti.{Oti}
use Rattle.oti_fields.specs.declared.identifier.PacketId.{PacketId}
use Rattle.packet_file.specs.Header.{HeaderFields, IsHeader, header_bytes, version_number}
use Rattle.packet_file.specs.Packets.{IsPacketOf, IsZeroFrom, Packet, length_field}
use Rattle.packet_file.specs.Packets.{packet_bytes, packet_head, payload, payload_by, payload_len}
use Rattle.packet_file.specs.Packets.{spelled, true_len}
use Rattle.packet_file.specs.Files.{HasZeroPadding, upgraded}
use Rattle.packet_file.specs.Laws.{FileIsOne, HeaderIsOne, IsSpelling, PacketIsOne}
use Rattle.packet_file.specs.Laws.{PacketIsSpelled, UpgradeHasPackets}
use Rattle.packet_file.specs.declared.version.Version.{Version}
use Rattle.packet_file.specs.declared.version.Version.TheVariants.{One, Two}
use Rattle.packet_file.proofs.Lengths.{payload_in_range}
use Rattle.packet_file.proofs.Limits.{ids_fit}

-- lists of one length that begin the same list are equal, and so is what follows them
pub same_fronts : (a b rest more : List ℕ) → length a ≡ length b → a ++ rest ≡ b ++ more
    → (a ≡ b) × (rest ≡ more)
same_fronts a b rest more long is = (
  sym (take_at a rest (length b) long) ∙ ap (take (length b)) is
      ∙ take_at b more (length b) refl,
  sym (drop_at a rest (length b) long)
      ∙ ap (drop (length b)) is ∙ drop_at b more (length b) refl,
)

abbrev fields_of : Version → Codec → Oti → HeaderFields
fields_of v c o = record { version = v; codec = c; oti = o }

abbrev pub packet : PacketId → List ℕ → Packet
packet id symbol = (id, symbol)

-- in version 1 a packet is its identifier and its whole symbol
pub whole_bytes : (h : HeaderFields) (id : PacketId) (symbol : List ℕ) → h.version ≡ One
    → length symbol ≡ h.oti.symbol → packet_bytes h (id, symbol) ≡ id_bytes id ++ symbol
whole_bytes h id symbol one long =
    let all : take h.oti.symbol symbol ≡ symbol = take_all h.oti.symbol symbol
    (omega (arith, long)) in
    let here : (id_bytes id ++ []) ++ take h.oti.symbol symbol ≡ id_bytes id ++ symbol =
    ap₂ (λ front rest. front ++ rest) (append-nil (id_bytes id)) all in
    subst (λ (v : Version). (id_bytes id ++ length_field v (true_len h id)) ++ take (payload_by v
    h.oti.symbol (true_len h id)) symbol ≡ id_bytes id ++ symbol) (sym one) here

-- symbols that agree on their payload, and are zero behind it
pub same_symbols : (n : ℕ) (s t : List ℕ) → length s ≡ length t → take n s ≡ take n t
    → IsZeroFrom n s → IsZeroFrom n t → s ≡ t
same_symbols n s t long front zero other =
    let rest : length (drop n s) ≡ length (drop n t) =
    length-drop n s ∙ ap (λ len. len - n) long ∙ sym (length-drop n t) in
    sym (take-append-drop n s) ∙ ap₂ (λ a b. a ++ b) front (zero ∙ ap zero_symbol rest
    ∙ sym other) ∙ take-append-drop n t

-- a version and a codec are known by their numbers
version_one : (a b : Version) → version_number a ≡ version_number b → a ≡ b
version_one One One same = refl
version_one One Two same = absurd (omega (arith, same))
version_one Two One same = absurd (omega (arith, same))
version_one Two Two same = refl

abbrev codec_at : ℕ → Codec
codec_at number =
    if number == 3 then Staircase
    else if number == 4 then Triangle
    else if number == 200 then Parity2d
    else Corner2d

codec_back : (codec : Codec) → codec_at (codec_number codec) ≡ codec
codec_back Staircase = refl
codec_back Triangle = refl
codec_back Parity2d = refl
codec_back Corner2d = refl

codec_one : (a b : Codec) → codec_number a ≡ codec_number b → a ≡ b
codec_one a b same = sym (codec_back a) ∙ ap codec_at same ∙ codec_back b

pub header_one : FieldsAreOne → HeaderIsOne
header_one fields_one h other bits other_bits same =
    let version : h.version ≡ other.version = version_one h.version other.version
    (ap (λ l. get_or l 4 0) same) in
    let codec : h.codec ≡ other.codec = codec_one h.codec other.codec
    (ap (λ l. get_or l 5 0) same) in
    let oti : h.oti ≡ other.oti = fields_one h.oti other.oti bits other_bits (ap (drop 8) same) in
    ap (λ (v : Version). fields_of v h.codec h.oti) version
    ∙ ap (λ (c : Codec). fields_of other.version c h.oti) codec
    ∙ ap (λ (o : Oti). fields_of other.version other.codec o) oti

module _ (id_one : IdIsOne) where
  -- packets with one identifier
  same_packets : (h : HeaderFields) (id : PacketId) (s t rest more : List ℕ) → IsHeader h
      → IsPacketOf h (id, s) → IsPacketOf h (id, t)
      → packet_bytes h (id, s) ++ rest ≡ packet_bytes h (id, t) ++ more
      → (s ≡ t) × (rest ≡ more)
  same_packets h id s t rest more is mine its same =
      let n : ℕ = payload_len h id in
      let head : List ℕ = packet_head h id in
      let range = payload_in_range h id is mine.id in
      let long : length (head ++ take n s) ≡ length (head ++ take n t) =
      omega (
        arith,
        length-append head (take n s),
        length-append head (take n t),
        length-take-le n s (omega (arith, mine.long, range.1)),
        length-take-le n t (omega (arith, its.long, range.1)),
      ) in
      let parts = same_fronts (head ++ take n s) (head ++ take n t) rest more long same in
      let fronts = same_fronts head head (take n s) (take n t) refl parts.0 in
      (same_symbols n s t (mine.long ∙ sym its.long) fronts.1 mine.padded its.padded, parts.1)

  pub packet_one : PacketIsOne
  packet_one h p q rest more is mine its same =
      let behind : Packet → List ℕ → List ℕ = λ (r : Packet) (l : List ℕ). length_field h.version
      (true_len h r.0) ++ (payload h r ++ l) in
      let apart : (r : Packet) (l : List ℕ) → packet_bytes h r ++ l ≡ id_bytes r.0 ++ behind r l =
      λ (r : Packet) (l : List ℕ). append_assoc (packet_head h r.0) (payload h r) l
      ∙ append_assoc (id_bytes r.0) (length_field h.version (true_len h r.0)) (payload h r ++ l) in
      let fronts = same_fronts (id_bytes p.0) (id_bytes q.0) (behind p rest) (behind q more) refl
      (sym (apart p rest) ∙ same ∙ apart q more) in
      let ids : p.0 ≡ q.0 = id_one p.0 q.0 (ids_fit h p.0 is mine.id) (ids_fit h q.0 is its.id)
      fronts.0 in
      let moved : IsPacketOf h (p.0, q.1) = subst (λ (id : PacketId). IsPacketOf h (id, q.1))
      (sym ids) its in
      let again : packet_bytes h (p.0, p.1) ++ rest ≡ packet_bytes h (p.0, q.1) ++ more =
      same ∙ ap (λ (id : PacketId). packet_bytes h (id, q.1) ++ more) (sym ids) in
      let parts = same_packets h p.0 p.1 q.1 rest more is mine moved again in
      (ap₂ packet ids parts.0, parts.1)

  -- as many bytes as a packet has spell one, since four bytes spell an identifier
  pub packet_spelled : IdIsSpelled → PacketIsSpelled
  packet_spelled id_spelled h bytes one long all =
      let four : length (take 4 bytes) ≡ 4 = length-take-le 4 bytes (omega (arith, long)) in
      let id = id_spelled (take 4 bytes) four (All-take (λ byte. byte < 256) 4 bytes all) in
      let symbol : List ℕ = drop 4 bytes in
      let rest : length symbol ≡ h.oti.symbol = omega (arith, length-drop 4 bytes, long) in
      let spelled_so : bytes ≡ id_bytes id.0 ++ symbol = sym (take-append-drop 4 bytes)
      ∙ ap (λ front. front ++ symbol) id.2 in
      let is : IsSpelling h (id.0, symbol) bytes = record {
        bits = id.1;
        long = rest;
        bytes_are = spelled_so ∙ sym (whole_bytes h id.0 symbol one rest);
      } in (
        (id.0, symbol),
        is,
        λ (other : Packet) (its : IsSpelling h other bytes).
            let same : id_bytes other.0 ++ other.1 ≡ id_bytes id.0 ++ symbol =
            sym (whole_bytes h other.0 other.1 one its.long) ∙ sym its.bytes_are ∙ spelled_so in
            let parts = same_fronts (id_bytes other.0) (id_bytes id.0) other.1 symbol refl same in
            ap₂ packet (id_one other.0 id.0 its.bits id.1 parts.0) parts.1,
      )

-- bytes are packets of a file in one way
module _ (header_one : HeaderIsOne) (packet_is_one : PacketIsOne) where
  pub packets_one : (h : HeaderFields) → IsHeader h → (packets others : List Packet)
      → All (IsPacketOf h) packets → All (IsPacketOf h) others
      → spelled h packets ≡ spelled h others → packets ≡ others
  packets_one h is [] [] each other same = refl
  packets_one h is [] (q ∷ others) each other same = absurd (cc)
  packets_one h is (p ∷ packets) [] each other same = absurd (cc)
  packets_one h is (p ∷ packets) (q ∷ others) each other same =
      let parts = packet_is_one h p q (spelled h packets) (spelled h others) is
      (All-head (IsPacketOf h) p packets each) (All-head (IsPacketOf h) q others other) same in
      ap₂ (λ (a : Packet) (l : List Packet). a ∷ l) parts.0 (packets_one h is packets others
      (All-tail (IsPacketOf h) p packets each) (All-tail (IsPacketOf h) q others other) parts.1)

  -- bytes are the packet file of one header and one list of packets
  pub file_one : FileIsOne
  file_one h other most other_most packets others bytes file second =
      let parts = same_fronts (header_bytes h) (header_bytes other) (spelled h packets)
      (spelled other others) refl (sym file.bytes_are ∙ second.bytes_are) in
      let fields : h ≡ other = header_one h other file.header.bits second.header.bits parts.0 in (
        fields,
        packets_one h file.header packets others file.each
            (subst (λ (x : HeaderFields). All (IsPacketOf x) others) (sym fields) second.each)
            (parts.1 ∙ ap (λ (x : HeaderFields). spelled x others) (sym fields)),
      )

-- what is a packet of a file is one of its upgrade, where its padding is zero
pub packet_upgraded : (h : HeaderFields) (p : Packet) → IsPacketOf h p → HasZeroPadding h p
    → IsPacketOf (upgraded h) p
packet_upgraded h p is zero = record {
  id = record { block = is.id.block; symbol = is.id.symbol };
  long = is.long;
  padded = zero;
}

pub header_upgraded : (h : HeaderFields) → IsHeader h → IsHeader (upgraded h)
header_upgraded h is = record { bits = is.bits; fields = is.fields; sizes = is.sizes }

pub upgrade_has_packets : UpgradeHasPackets
upgrade_has_packets h most packets bytes file zero = record {
  header = header_upgraded h file.header;
  each = λ i d inside. packet_upgraded h _ (file.each i d inside) (zero i d inside);
  few = file.few;
  bytes_are = refl;
}
