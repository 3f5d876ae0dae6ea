-- Pieces as they are read.
use Rattle.std.proofs.Common.{◌≡◌, ◌≢◌, ℕ, ◌+◌, ◌*◌, ◌/◌, ◌%◌, ◌<◌, ◌≤◌, List, [], ◌∷◌, ◌++◌}
use Rattle.std.proofs.Common.{length, take, drop, get_or, slice_index, refl, sym, ap, ap₂, ◌∙◌}
use Rattle.std.proofs.Common.{subst, arith, append_assoc, inl, inr, Option, Some, IfSome}
use Rattle.std.proofs.Common.{length-append}
use Rattle.std.proofs.Math.Seq.{drop-cons}
use Rattle.std.proofs.lemmas.List.{drop_all, take_all}
use Rattle.byteorder.specs.Endian.{big_bytes}
use Rattle.std.specs.Io.KnownBytes.{Consumes, IsAtEnd}
use Rattle.std.proofs.KnownBytes.{Consumes-trans}
use Rattle.fec_base.specs.Causes.{Rose}
use Rattle.fec_base.specs.Outside.{Stream}
use Rattle.oti_fields.specs.Fields.{FitsIdBits, id_bytes}
use Rattle.oti_fields.specs.Laws.{IdIsOne}
use Rattle.oti_fields.specs.declared.identifier.PacketId.{PacketId}
use Rattle.packet_file.specs.Header.{HeaderFields, IsHeader}
use Rattle.packet_file.specs.Packets.{IsIdOf, length_field, packet_head, payload_by, payload_len}
use Rattle.packet_file.specs.Packets.{true_len}
use Rattle.packet_file.specs.Pieces.{IsBroken, lead_by, lead_len}
use Rattle.packet_file.specs.Faults.{HasPacketFault}
use Rattle.packet_file.specs.OneReading.{StopsAt, stop_by}
use Rattle.packet_file.specs.OneReading.Stop.{Failed}
use Rattle.packet_file.specs.OnePacket.{StopsBefore}
use Rattle.packet_file.specs.Taking.{TakesAtMost}
use Rattle.packet_file.specs.PacketMost.{packet_most, packet_most_by}
use Rattle.packet_file.specs.declared.fault.FileFault.{FileFault}
use Rattle.packet_file.specs.declared.fault.FileFault.TheVariants.{ReadFault}
use Rattle.packet_file.specs.declared.version.Version.{Version}
use Rattle.packet_file.specs.declared.version.Version.TheVariants.{One, Two}
use Rattle.packet_file.proofs.Lengths.{true_in_range}
use Rattle.packet_file.proofs.Limits.{ids_fit}
use Rattle.packet_file.proofs.OneFile.{same_fronts}

-- what comes first of a piece has room for an identifier, and isn't long
pub lead_some : (v : Version) (len : ℕ) → 4 ≤ lead_by v len
lead_some One len = omega arith
lead_some Two len = omega arith

pub lead_most : (v : Version) (len : ℕ) → len ≤ 65535 → lead_by v len ≤ 65541
lead_most One len most = omega (arith, most)
lead_most Two len most = omega arith

-- bytes whose first four are those of an identifier
pub begins : (lead : List ℕ) (id : PacketId) → 4 ≤ length lead
    → slice_index lead 0 ∷ slice_index lead 1 ∷ slice_index lead 2 ∷ slice_index lead 3 ∷ []
    ≡ id_bytes id → lead ≡ id_bytes id ++ drop 4 lead
begins lead id long four =
    let one : drop 0 lead ≡ slice_index lead 0 ∷ drop 1 lead =
    drop-cons lead 0 0 (omega (arith, long)) in
    let two : drop 1 lead ≡ slice_index lead 1 ∷ drop 2 lead =
    drop-cons lead 1 0 (omega (arith, long)) in
    let three : drop 2 lead ≡ slice_index lead 2 ∷ drop 3 lead =
    drop-cons lead 2 0 (omega (arith, long)) in
    let last : drop 3 lead ≡ slice_index lead 3 ∷ drop 4 lead =
    drop-cons lead 3 0 (omega (arith, long)) in
    one ∙ ap (λ l. slice_index lead 0 ∷ l) (two ∙ ap (λ l. slice_index lead 1 ∷ l) (three
    ∙ ap (λ l. slice_index lead 2 ∷ l) last)) ∙ ap (λ l. l ++ drop 4 lead) four

-- the two bytes behind an identifier are those of the number that they spell
pub two_bytes : (head : List ℕ) → length head ≡ 6 → slice_index head 4 < 256
    → slice_index head 5 < 256
    → drop 4 head ≡ big_bytes 2 (slice_index head 4 * 256 + slice_index head 5)
two_bytes head long first second =
    let a : ℕ = slice_index head 4 in
    let b : ℕ = slice_index head 5 in
    let fifth : drop 4 head ≡ a ∷ drop 5 head = drop-cons head 4 0 (omega (arith, long)) in
    let sixth : drop 5 head ≡ b ∷ drop 6 head = drop-cons head 5 0 (omega (arith, long)) in
    let rest : drop 6 head ≡ [] = drop_all 6 head (omega (arith, long)) in
    let high : a ≡ (a * 256 + b) / 256 % 256 = omega (arith, first, second) in
    let low : b ≡ (a * 256 + b) % 256 = omega (arith, first, second) in
    fifth ∙ ap (λ l. a ∷ l) (sixth ∙ ap (λ l. b ∷ l) rest)
    ∙ ap₂ (λ x y. x ∷ y ∷ []) high low

-- all that was asked for was read
pub consumes_all : (left now : Option (List ℕ)) (taken : ℕ) (bytes : List ℕ)
    → length bytes ≤ taken → Consumes left now (take taken bytes) → Consumes left now bytes
consumes_all left now taken bytes all = subst (Consumes left now) (take_all taken bytes all)

-- what holds of an identifier that was found
pub if_found : (P : PacketId → Type 0) (found : Option PacketId) (id : PacketId)
    → found ≡ Some id → IfSome found P → P id
if_found P found id is holds = subst (λ (f : Option PacketId). IfSome f P) is holds

-- a fault that the bytes have stops the reading
pub bad_stops : (h : HeaderFields) (limit index : ℕ) (input now : Stream) (piece : List ℕ)
    (fault : FileFault) → HasPacketFault h index limit piece fault
    → (IsBroken h index limit piece → IsAtEnd now.bytes)
    → StopsAt h limit index input now piece (stop_by fault)
bad_stops h limit index input now piece ReadFault has ends = absurd has
bad_stops h limit index input now piece fault has ends = (has, ends)

module _ (id_one : IdIsOne) (h : HeaderFields) (is : IsHeader h) (index limit : ℕ) (lead : List ℕ)
    (id : PacketId) (long : length lead ≡ lead_len h) (bits : FitsIdBits id)
    (spelled : lead ≡ id_bytes id ++ drop 4 lead) where
  -- the identifier of a head is the one that the bytes begin with
  same_id : (other : PacketId) (rest : List ℕ) → IsIdOf h other
      → lead ≡ packet_head h other ++ rest → other ≡ id
  same_id other rest of head =
      let apart : lead ≡ id_bytes other ++ (length_field h.version (true_len h other) ++ rest) =
      head ∙ append_assoc (id_bytes other) (length_field h.version (true_len h other)) rest in
      let fronts = same_fronts (id_bytes other) (id_bytes id) (length_field h.version (true_len h
      other) ++ rest) (drop 4 lead) refl (sym apart ∙ spelled) in
      id_one other id (ids_fit h other is of) bits fronts.0

  -- what begins with an identifier that the file doesn't have is no packet that broke off
  pub unknown_whole : ¬ IsIdOf h id → ¬ IsBroken h index limit lead
  unknown_whole not (inl short) = absurd (omega (arith, short, long))
  unknown_whole not (inr (other, rest, within, of, head, less)) =
      not (subst (IsIdOf h) (same_id other rest of head) of)

  -- nor is what has another length
  pub mismeasured_whole : h.version ≡ Two
      → slice_index lead 4 * 256 + slice_index lead 5 ≢ true_len h id
      → ¬ IsBroken h index limit lead
  mismeasured_whole two other_len (inl short) = absurd (omega (arith, short, long))
  mismeasured_whole two other_len (inr (other, rest, within, of, head, less)) =
      let same : other ≡ id = same_id other rest of head in
      let n : ℕ = true_len h other in
      let spelled_so : lead ≡ (id_bytes other ++ length_field Two n) ++ rest =
      head ∙ ap (λ (v : Version). (id_bytes other ++ length_field v n) ++ rest) two in
      let high : slice_index lead 4 ≡ n / 256 % 256 = ap (λ l. get_or l 4 0) spelled_so in
      let low : slice_index lead 5 ≡ n % 256 = ap (λ l. get_or l 5 0) spelled_so in
      let fits : n < 65536 = omega (arith, (true_in_range h other is of).1, is.bits.symbol_bits) in
      let told : slice_index lead 4 * 256 + slice_index lead 5 ≡ n =
      omega (arith, high, low, fits) in
      other_len (told ∙ ap (true_len h) same)

-- the head of a packet of version 2, and a part of its payload
module _ (h : HeaderFields) (index limit len : ℕ) (id : PacketId) (head : List ℕ)
    (two : h.version ≡ Two) (within : index < limit) (of : IsIdOf h id)
    (len_is : len ≡ true_len h id) (head_is : head ≡ packet_head h id) where
  pub broken_payload : (part : List ℕ) → length part < len → IsBroken h index limit (head ++ part)
  broken_payload part less =
      let all : payload_len h id ≡ len =
      ap (λ (v : Version). payload_by v h.oti.symbol (true_len h id)) two ∙ sym len_is in
      inr (
        id,
        part,
        within,
        of,
        ap (λ l. l ++ part) head_is,
        subst (λ n. length part < n) (sym all) less,
      )

  pub breaks_off : (input mid now : Stream) (part : List ℕ)
      → Consumes input.bytes mid.bytes head → Consumes mid.bytes now.bytes part
      → length part < len → input.faults ≤ mid.faults → Rose mid.faults now.faults
      → StopsBefore h limit index input now Failed
  breaks_off input mid now part first second less later rose = (
    head ++ part,
    Consumes-trans input.bytes mid.bytes now.bytes head part first second,
    (omega (arith, later, rose), broken_payload part less),
  )

  pub takes_most : (left mid now : Option (List ℕ)) (part : List ℕ) → Consumes left mid head
      → Consumes mid now part → length head ≡ 6 → length part ≤ h.oti.symbol
      → TakesAtMost left now (packet_most h)
  takes_most left mid now part first second six less =
      let most : packet_most h ≡ 6 + h.oti.symbol =
      ap (λ (v : Version). packet_most_by v h.oti.symbol) two in (
        head ++ part,
        Consumes-trans left mid now head part first second,
        omega (arith, length-append head part, six, less, most),
      )
