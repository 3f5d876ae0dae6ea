-- The bytes of packets of a file hold no bad piece.
use Rattle.std.proofs.Common.{◌≡◌, ℕ, ◌+◌, ◌/◌, ◌%◌, ◌<◌, ◌≤◌, List, [], ◌∷◌, ◌++◌, length}
use Rattle.std.proofs.Common.{get_or, refl, sym, ap, ◌∙◌, subst, arith, append_assoc, inl, inr}
use Rattle.std.proofs.Common.{length-append, length-take-le}
use Rattle.std.proofs.lemmas.List.Elements.{All-head}
use Rattle.oti_fields.specs.Fields.{FitsIdBits, id_bytes}
use Rattle.oti_fields.specs.Laws.{IdIsOne}
use Rattle.oti_fields.specs.declared.identifier.PacketId.{PacketId}
use Rattle.packet_file.specs.Header.{HeaderFields, IsHeader}
use Rattle.packet_file.specs.Packets.{IsPacketOf, Packet, block_symbols, length_field, packet_bytes}
use Rattle.packet_file.specs.Packets.{packet_head, payload, payload_by, payload_len, spelled}
use Rattle.packet_file.specs.Packets.{true_len}
use Rattle.packet_file.specs.Pieces.{IsBroken, lead_by}
use Rattle.packet_file.specs.Faults.{HasPacketFault}
use Rattle.packet_file.specs.FaultLaws.{PacketHasNoFault, PacketsAreNoBadPiece}
use Rattle.packet_file.specs.declared.fault.FileFault.{FileFault}
use Rattle.packet_file.specs.declared.fault.FileFault.TheVariants.{ShortPacket, NoSuchBlock}
use Rattle.packet_file.specs.declared.fault.FileFault.TheVariants.{NoSuchSymbol, BadLength}
use Rattle.packet_file.specs.declared.fault.FileFault.TheVariants.{TooManyPackets}
use Rattle.packet_file.specs.declared.version.Version.{Version}
use Rattle.packet_file.specs.declared.version.Version.TheVariants.{One, Two}
use Rattle.packet_file.proofs.Lengths.{payload_in_range, true_in_range}
use Rattle.packet_file.proofs.Limits.{ids_fit}
use Rattle.packet_file.proofs.OneFile.{same_fronts}
use Rattle.packet_file.proofs.ReadPieces.{lead_some}

-- what comes first of a piece is a part of a packet
lead_within : (v : Version) (len true_one : ℕ) → 1 ≤ true_one
    → lead_by v len ≤ 4 + length (length_field v true_one) + payload_by v len true_one
lead_within One len true_one some = omega arith
lead_within Two len true_one some = omega (arith, some)

module _ (id_one : IdIsOne) (h : HeaderFields) (header : IsHeader h) (index limit : ℕ) (p : Packet)
    (rest piece behind : List ℕ) (is : IsPacketOf h p) (few : index < limit)
    (same : packet_bytes h p ++ rest ≡ piece ++ behind) where
  abbrev field : List ℕ
  field = length_field h.version (true_len h p.0)

  size : length (packet_bytes h p) ≡ 4 + length field + payload_len h p.0
  size = omega (
    arith,
    length-append field (payload h p),
    length-take-le (payload_len h p.0) p.1
        (omega (arith, is.long, (payload_in_range h p.0 header is.id).1)),
  )

  long : length (packet_bytes h p) + length rest ≡ length (piece ++ behind)
  long = sym (length-append (packet_bytes h p) rest) ∙ ap length same

  -- a piece that begins with an identifier begins with that of the packet
  own : (id : PacketId) (more : List ℕ) → FitsIdBits id → piece ≡ id_bytes id ++ more → p.0 ≡ id
  own id more fits piece_is =
      let apart : packet_bytes h p ++ rest ≡ id_bytes p.0 ++ (field ++ (payload h p ++ rest)) =
      append_assoc (packet_head h p.0) (payload h p) rest
      ∙ append_assoc (id_bytes p.0) field (payload h p ++ rest) in
      let other : piece ++ behind ≡ id_bytes id ++ (more ++ behind) =
      ap (λ l. l ++ behind) piece_is ∙ append_assoc (id_bytes id) more behind in
      let fronts = same_fronts (id_bytes p.0) (id_bytes id) (field ++ (payload h p ++ rest))
      (more ++ behind) refl (sym apart ∙ same ∙ other) in
      id_one p.0 id (ids_fit h p.0 header is.id) fits fronts.0

  -- where the bytes end the piece is whole
  not_broken : IsBroken h index limit piece → behind ≡ [] → ⊥
  not_broken (inl short) none = absurd (omega (
    arith,
    short,
    size,
    lead_within h.version h.oti.symbol (true_len h p.0) (true_in_range h p.0 header is.id).0,
    long,
    ap length none,
    length-append piece behind,
  ))
  not_broken (inr (id, part, within, of, head, less)) none =
      let at : p.0 ≡ id = own id (length_field h.version (true_len h id) ++ part)
      (ids_fit h id header of) (head ∙ append_assoc (id_bytes id) (length_field h.version (true_len
      h id)) part) in
      let heads : length (packet_head h p.0) + payload_len h p.0 ≡ length (packet_head h id)
      + payload_len h id = ap (λ (x : PacketId). length (packet_head h x) + payload_len h x) at in
      absurd (omega (
        arith,
        less,
        heads,
        size,
        ap length head,
        length-append (length_field h.version (true_len h id)) part,
        long,
        ap length none,
        length-append piece behind,
      ))

  no_fault : (fault : FileFault) → HasPacketFault h index limit piece fault
      → (IsBroken h index limit piece → behind ≡ []) → ⊥
  no_fault TooManyPackets (all, some, most) ends = absurd (omega (arith, all, few))
  no_fault (ShortPacket i have) (inside, i_is, long, some, broken) ends =
      not_broken broken (ends broken)
  no_fault (NoSuchBlock i sbn) (inside, i_is, id, (more, fits, long, piece_is), sbn_is, past) ends =
      absurd (omega (
        arith,
        past,
        sbn_is,
        ap (λ (x : PacketId). x.sbn) (own id more fits piece_is),
        is.id.block,
      ))
  no_fault (NoSuchSymbol i esi) (
    inside,
    i_is,
    id,
    (more, fits, long, piece_is),
    block,
    esi_is,
    past,
  ) ends =
      let within : id.esi < block_symbols h id.sbn =
      subst (λ (x : PacketId). x.esi < block_symbols h x.sbn) (own id more fits piece_is)
      is.id.symbol in
      absurd (omega (arith, past, esi_is, within))
  no_fault (BadLength i len) (inside, i_is, two, id, of, fits, piece_is, differs) ends =
      let n : ℕ = true_len h p.0 in
      let at : p.0 ≡ id = own id _ (ids_fit h id header of) piece_is in
      let all : ((id_bytes p.0 ++ length_field Two n) ++ payload h p) ++ rest ≡ (id_bytes id
      ++ length_field Two len) ++ behind =
      sym (ap (λ (v : Version). ((id_bytes p.0 ++ length_field v n) ++ payload h p) ++ rest) two)
      ∙ same ∙ ap (λ l. l ++ behind) piece_is in
      let high : n / 256 % 256 ≡ len / 256 % 256 = ap (λ l. get_or l 4 0) all in
      let low : n % 256 ≡ len % 256 = ap (λ l. get_or l 5 0) all in
      let small : n < 65536 = omega (
        arith,
        (true_in_range h p.0 header is.id).1,
        header.bits.symbol_bits,
      ) in
      let equal : len ≡ n = omega (arith, high, low, small, fits) in
      differs (equal ∙ ap (true_len h) at)
  no_fault _ has ends = has

-- no fault shows in no byte
fault_some : (h : HeaderFields) (index limit : ℕ) (piece : List ℕ) (fault : FileFault)
    → HasPacketFault h index limit piece fault → 0 < length piece
fault_some h index limit piece TooManyPackets (all, some, most) = some
fault_some h index limit piece (ShortPacket i have) (inside, i_is, long, some, broken) =
    omega (arith, long, some)
fault_some h index limit piece (NoSuchBlock i sbn)
    (inside, i_is, id, (more, fits, long, piece_is), sbn_is, past) =
    omega (arith, long, lead_some h.version h.oti.symbol)
fault_some h index limit piece (NoSuchSymbol i esi) (
  inside,
  i_is,
  id,
  (more, fits, long, piece_is),
  block,
  esi_is,
  past,
) = omega (arith, long, lead_some h.version h.oti.symbol)
fault_some h index limit piece (BadLength i len)
    (inside, i_is, two, id, of, fits, piece_is, differs) = omega (arith, ap length piece_is)
fault_some h index limit piece _ has = absurd has

pub no_bad_piece : IdIsOne → PacketsAreNoBadPiece
no_bad_piece id_one h index most [] piece behind faults fault header each few same (has, ends) =
    absurd (omega (
      arith,
      fault_some h index most piece fault has,
      ap length same,
      length-append piece behind,
    ))
no_bad_piece id_one h index most (p ∷ packets) piece behind faults fault header each few same
    (has, ends) = no_fault id_one h header index most p (spelled h packets) piece behind
    (All-head (IsPacketOf h) p packets each) (omega (arith, few)) same fault has ends

-- nor are those of one packet a fault
pub packet_less : IdIsOne → PacketHasNoFault
packet_less id_one h index most p fault header is few has =
    no_fault id_one h header index most p [] (packet_bytes h p) [] is few refl fault has
    (λ broken. refl)
