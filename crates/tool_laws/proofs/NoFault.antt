-- The bytes of a packet file have no fault.
use Rattle.std.proofs.Common.{◌≡◌, ◌⊎◌, inl, inr, ⊎_elim, ℕ, ◌<◌, List, [], ◌∷◌, ◌++◌}
use Rattle.std.proofs.Common.{length, drop, All, Option, Some, refl, sym, ap, ◌∙◌, subst, arith}
use Rattle.std.proofs.Common.{append-nil, append_assoc, length-append}
use Rattle.std.specs.Io.KnownBytes.{Consumes, IsAtEnd}
use Rattle.std.proofs.lemmas.List.{append_cancel_left, drop_at}
use Rattle.std.proofs.lemmas.List.Elements.{All-drop}
use Rattle.fec_base.specs.Outside.{Stream, stream}
use Rattle.packet_file.specs.Faults.{HasHeaderFault}
use Rattle.packet_file.specs.FaultLaws.{PacketsAreNoBadPiece}
use Rattle.packet_file.specs.Files.{IsPacketFile}
use Rattle.packet_file.specs.Header.{HeaderFields, IsHeader, header_bytes}
use Rattle.packet_file.specs.Laws.{HeaderIsOne, PacketIsOne}
use Rattle.packet_file.specs.OnePacket.{StopsBefore}
use Rattle.packet_file.specs.OneReading.{LacksHeader}
use Rattle.packet_file.specs.OneReading.Stop.{Bad}
use Rattle.packet_file.specs.Packets.{IsPacketOf, Packet, spelled}
use Rattle.packet_file.specs.declared.fault.FileFault.{FileFault}
use Rattle.packet_file.specs.declared.fault.FileFault.TheVariants.{ShortHeader, BadMagic}
use Rattle.packet_file.specs.declared.fault.FileFault.TheVariants.{BadVersion, BadCodec}
use Rattle.packet_file.specs.declared.fault.FileFault.TheVariants.{BadReserved, Field}
use Rattle.packet_file.specs.declared.fault.FileFault.TheVariants.{TooLarge, TooManyBlocks}
use Rattle.packet_file.proofs.OneFault.{header_less}
use Rattle.packet_file.proofs.OneFile.{same_fronts}
use Rattle.tool_laws.proofs.HeaderLength.{length_header}
use Rattle.tool_laws.proofs.OneDecoding.{GoesOn, one_front, taken_of}

-- packets without a byte are none
pub no_packets : (h : HeaderFields) (tail : List Packet) (more : List ℕ)
    → spelled h tail ++ more ≡ [] → tail ≡ []
no_packets h [] more none = refl
no_packets h (p ∷ tail) more none = absurd (cc none)

-- packets that begin the bytes of all packets of a file are a front of them
pub front_of : PacketIsOne → (h : HeaderFields) → IsHeader h
    → (packets all : List Packet) (rest : List ℕ) → All (IsPacketOf h) packets
    → All (IsPacketOf h) all → spelled h packets ++ rest ≡ spelled h all
    → GoesOn h packets all rest []
front_of packet_one h header packets all rest each every same = ⊎_elim
    (λ (g : GoesOn h packets all rest []). g)
    (λ (g : GoesOn h all packets [] rest).
    let none : g.0 ≡ [] = no_packets h g.0 rest (sym g.2) in (
      [],
      sym (append-nil packets ∙ g.1 ∙ ap (λ (l : List Packet). all ++ l) none ∙ append-nil all),
      sym (g.2 ∙ ap (λ (l : List Packet). spelled h l ++ rest) none),
    ))
    (one_front packet_one h header packets all rest [] each every (same
    ∙ sym (append-nil (spelled h all))))

-- ---- the header

module _ (header_one : HeaderIsOne) (h : HeaderFields) (header : IsHeader h) where
  -- bytes that spell no whole header have one fault, that they are short
  fault_long : (fault : FileFault) (piece : List ℕ) → HasHeaderFault piece fault
      → (length piece ≡ 26) ⊎ (length piece < 26)
  fault_long (ShortHeader have) piece (long, short) = inr (omega (arith, long, short))
  fault_long BadMagic piece has = inl has.0
  fault_long (BadVersion version) piece has = inl has.0
  fault_long (BadCodec number) piece has = inl has.0
  fault_long BadReserved piece has = inl has.0
  fault_long (Field fault) piece (other, fits, bytes, is) =
      inl (ap length bytes ∙ length_header other)
  fault_long (TooLarge limit) piece (other, fits, bytes, fields, is) =
      inl (ap length bytes ∙ length_header other)
  fault_long TooManyBlocks piece (other, fits, bytes, fields, is) =
      inl (ap length bytes ∙ length_header other)
  fault_long _ piece has = absurd has

  -- so what begins with one isn't refused as a header
  pub header_taken : (fault : FileFault) (behind : List ℕ) (faults : ℕ) (now : Stream)
      → LacksHeader (stream (Some (header_bytes h ++ behind)) faults) now (Bad fault) → ⊥
  header_taken fault behind faults now (piece, taken, has, ends) =
      let (rest, left_is, bytes) = taken_of (header_bytes h ++ behind) now.bytes piece taken in
      ⊎_elim
      (λ (long : length piece ≡ 26).
      let parts = same_fronts (header_bytes h) piece behind rest (length_header h ∙ sym long)
      bytes in
      header_less header_one h fault header
      (subst (λ (l : List ℕ). HasHeaderFault l fault) (sym parts.0) has))
      (λ (short : length piece < 26).
      let none : rest ≡ [] = subst IsAtEnd left_is (ends short) in
      let all : length (header_bytes h ++ behind) ≡ length (piece ++ rest) = ap length bytes in
      absurd (omega (
        arith,
        short,
        all,
        ap length none,
        length-append (header_bytes h) behind,
        length_header h,
        length-append piece rest,
      )))
      (fault_long fault piece has)

-- ---- the packets

-- behind some packets of a file the next isn't refused
pub packet_taken : PacketIsOne → PacketsAreNoBadPiece → (h : HeaderFields) (most : ℕ)
    (packets : List Packet) (bytes : List ℕ) → IsPacketFile h most packets bytes
    → (fault : FileFault) (before : List Packet) (mid now : Stream) → All (IsPacketOf h) before
    → Consumes (Some bytes) mid.bytes (header_bytes h ++ spelled h before)
    → StopsBefore h most (length before) mid now (Bad fault) → ⊥
packet_taken packet_one no_bad h most packets bytes file fault before mid now each taken
    (piece, next, (has, ends)) =
    let (behind, mid_is, bytes_are) = taken_of bytes mid.bytes
    (header_bytes h ++ spelled h before) taken in
    let (rest, left_is, piece_is) = taken_of behind now.bytes piece
    (subst (λ (l : Option (List ℕ)). Consumes l now.bytes piece) mid_is next) in
    let same : spelled h before ++ behind ≡ spelled h packets =
    append_cancel_left (header_bytes h) (spelled h before ++ behind) (spelled h packets)
    (sym (append_assoc (header_bytes h) (spelled h before) behind) ∙ sym bytes_are
    ∙ file.bytes_are) in
    let (tail, all, tail_is) = front_of packet_one h file.header before packets behind each
    file.each same in
    let others : All (IsPacketOf h) tail =
    subst (All (IsPacketOf h)) (ap (drop (length before)) all ∙ drop_at before tail (length before)
    refl) (All-drop (IsPacketOf h) (length before) packets file.each) in
    no_bad h (length before) most tail piece rest now.faults fault file.header others
    (omega (arith, file.few, ap length all, length-append before tail))
    (sym (append-nil (spelled h tail)) ∙ sym tail_is ∙ piece_is)
    (has, λ broken. subst IsAtEnd left_is (ends broken))
