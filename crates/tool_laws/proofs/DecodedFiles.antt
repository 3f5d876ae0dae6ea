-- What the packet file of an object, or packets that are chosen from it, decode to.
use Rattle.std.proofs.Common.{◌≡◌, ◌↔◌, ◌⊎◌, inl, inr, ⊎_elim, ℕ, ◌==◌, Bool, true, List, [], ◌++◌}
use Rattle.std.proofs.Common.{length, get_or, take, map, filter, All, Contains, Option, Some, refl}
use Rattle.std.proofs.Common.{sym, ap, ◌∙◌, subst, arith, append-nil}
use Rattle.std.proofs.lemmas.List.{append_cancel_left, map-append, take_at}
use Rattle.std.proofs.lemmas.List.Elements.{All-contains, All-take, filter-append}
use Rattle.std.proofs.lemmas.List.Folds.{list_any-append}
use Rattle.std.specs.List.{list_any}
use Rattle.fec_base.specs.Told.{Telling}
use Rattle.sparse_rows.specs.Laws.{NullWordHoldsSource}
use Rattle.sparse_rows.specs.Matrix.{Matrix}
use Rattle.sparse_rows.specs.Codeword.{Arrival, positions}
use Rattle.sparse_rows.proofs.Sets.{or_first}
use Rattle.null_witness.specs.Laws.{ClosureHasSameNullWords, NullWordOfSubset}
use Rattle.null_witness.specs.Laws.{UndeterminedByNullWord}
use Rattle.peeling.specs.Laws.{ClosureHolds}
use Rattle.fec_session.specs.declared.outcome.Outcome.{Outcome}
use Rattle.packet_file.specs.Header.{HeaderFields, IsHeader, header_bytes}
use Rattle.packet_file.specs.Laws.{HeaderIsOne, PacketIsOne}
use Rattle.packet_file.specs.Packets.{IsPacketOf, Packet, spelled}
use Rattle.packet_file.proofs.OneFile.{same_fronts}
use Rattle.tool_base.specs.declared.status.Status.TheVariants as status
use Rattle.object_file.specs.File.{IsEncoding, packets}
use Rattle.object_file.specs.Received.{arrivals_of}
use Rattle.object_file.specs.Told.{HasCodes, IsOver, IsWhole}
use Rattle.tool_commands.specs.DecodeRun.{Decodes}
use Rattle.tool_commands.specs.Outcomes.{object_of, outcome_status}
use Rattle.tool_laws.specs.RoundTrip.{AreAmong, AreSent, ComeOutBy, EachBlock, GiveBack}
use Rattle.tool_laws.specs.RoundTrip.{IsByPeeling, LackNullWords}
use Rattle.tool_laws.proofs.ComesBack.{all_peeled, come_back, decided_by_null_words, each_right}
use Rattle.tool_laws.proofs.ComesBack.{peeled_give_back, whole_peeled}
use Rattle.tool_laws.proofs.NoFault.{front_of, no_packets}
use Rattle.tool_laws.proofs.OneDecoding.{GoesOn, IsRead, read_by}
use Rattle.tool_laws.proofs.HeaderLength.{length_header}
use Rattle.tool_laws.proofs.SentPackets.{list_of_file, list_spelled, packet_list}

-- a position that came is one that came where more packets came
more_came : (b : ℕ) (packets tail : List Packet) (e : ℕ) → positions (arrivals_of b packets) e
    ≡ true → positions (arrivals_of b (packets ++ tail)) e ≡ true
more_came b packets tail e here =
    ap (λ (l : List Packet). list_any (λ (a : Arrival). a.0 == e)
    (map (λ (p : Packet). (p.0.esi, p.1)) l)) (filter-append (λ (p : Packet). p.0.sbn == b)
    packets tail)
    ∙ ap (list_any (λ (a : Arrival). a.0 == e)) (map-append (λ (p : Packet). (p.0.esi, p.1))
    (filter (λ (p : Packet). p.0.sbn == b) packets) (filter (λ (p : Packet). p.0.sbn == b)
    tail))
    ∙ list_any-append (λ (a : Arrival). a.0 == e) (arrivals_of b packets) (arrivals_of b tail)
    ∙ or_first _ _ here

-- what a run makes of the bytes of a file: the packets up to where it is over, and how the blocks
-- come out by them
pub record IsDecoded (limit : Option ℕ) (early : Bool) (h : HeaderFields) (came : List Packet)
    (outcomes : List Outcome) (made : List ℕ) : Type 0 where
  pub code : ℕ → Matrix
  pub codes : HasCodes h limit code
  pub packets : List Packet
  pub tail : List Packet
  pub front : came ≡ packets ++ tail
  pub over : (tail ≡ []) ⊎ IsWhole h code packets
  pub out : ComeOutBy h limit packets outcomes
  pub made_is : made ≡ object_of outcomes h.oti.length

module _ (header_one : HeaderIsOne) (packet_one : PacketIsOne) (limit : Option ℕ) (early : Bool)
    (most : ℕ) where
  -- packets of a file that a run takes are a front of them
  takes_front : (h : HeaderFields) (code : ℕ → Matrix) (came packets : List Packet)
      (left : Option (List ℕ)) → All (IsPacketOf h) came
      → (read : IsRead limit early most (header_bytes h ++ spelled h came) left h code packets)
      → GoesOn h packets came read.rest []
  takes_front h code came packets left each read =
      front_of packet_one h read.header packets came read.rest read.taken.each each
      (append_cancel_left (header_bytes h) (spelled h packets ++ read.rest) (spelled h came)
      (sym read.bytes_are))

  over_by : (h : HeaderFields) (code : ℕ → Matrix) (packets tail : List Packet) (rest : List ℕ)
      → IsOver early (Some rest) h code packets → rest ≡ spelled h tail ++ []
      → (tail ≡ []) ⊎ IsWhole h code packets
  over_by h code packets tail rest over is = ⊎_elim
      (λ (end : rest ≡ []). inl (no_packets h tail [] (sym is ∙ end)))
      (λ (whole : (early ≡ true) × IsWhole h code packets). inr whole.1)
      over

  -- a decode of packets of a file, by the file's own header
  decoded_by : (h : HeaderFields) → IsHeader h → (came : List Packet) → All (IsPacketOf h) came
      → (left : Option (List ℕ)) (told told_now : Option (List Telling)) (outcomes : List Outcome)
      (made report : List ℕ)
      → Decodes limit early most (Some (header_bytes h ++ spelled h came)) left told told_now
      outcomes made report → IsDecoded limit early h came outcomes made
  decoded_by h header came each left told told_now outcomes made report d =
      let bytes : List ℕ = header_bytes h ++ spelled h came in
      let first : IsRead limit early most bytes left d.header d.code d.packets =
      read_by limit early most bytes d.mid left d.header d.code d.packets d.opens
      d.stands.packets_are d.stands.taken d.over in
      let parts = same_fronts (header_bytes d.header) (header_bytes h)
      (spelled d.header d.packets ++ first.rest) (spelled h came) (length_header d.header
      ∙ sym (length_header h)) (sym first.bytes_are) in
      let is : d.header ≡ h = header_one d.header h first.header.bits header.bits parts.0 in
      let out : ComeOutBy d.header limit d.packets outcomes = record {
        counted = d.counted;
        each = λ b o lt. record {
          matrix = d.code b;
          code = first.codes b (omega (arith, lt, d.counted));
          determined = d.determined b o lt;
        };
      } in
      let read : IsRead limit early most bytes left h d.code d.packets =
      subst (λ (k : HeaderFields). IsRead limit early most bytes left k d.code d.packets) is
      first in
      let front = takes_front h d.code came d.packets left each read in
      record {
        code = d.code;
        codes = read.codes;
        packets = d.packets;
        tail = front.0;
        front = front.1;
        over = over_by h d.code d.packets front.0 read.rest read.over front.2;
        out = subst (λ (k : HeaderFields). ComeOutBy k limit d.packets outcomes) is out;
        made_is = d.object_is ∙ ap (λ (k : HeaderFields). object_of outcomes k.oti.length) is;
      }

  module _ (h : HeaderFields) (draws : Option ℕ) (object : List ℕ) (sent came : List Packet)
      (are_sent : AreSent h draws object sent) (chosen : AreAmong came sent)
      (left : Option (List ℕ)) (told told_now : Option (List Telling)) (outcomes : List Outcome)
      (made report : List ℕ)
      (decodes : Decodes limit early most (Some (header_bytes h ++ spelled h came)) left told
      told_now outcomes made report) where
    of_file : All (IsPacketOf h) came
    of_file k d lt = All-contains (IsPacketOf h) sent (get_or came k d) are_sent.packets_are.each
        (chosen k d lt)

    is : IsDecoded limit early h came outcomes made
    is = decoded_by h are_sent.encoding.header came of_file left told told_now outcomes made report
        decodes

    among : (packets tail : List Packet) → came ≡ packets ++ tail → AreAmong packets sent
    among packets tail front = subst (All (Contains sent)) (ap (take (length packets)) front
        ∙ take_at packets tail (length packets) refl) (All-take (Contains sent) (length packets)
        came chosen)

    -- packets that are chosen from a file decode to its object, or leave a block undetermined
    pub chosen_right : ((outcome_status outcomes ≡ status.Done) × (made ≡ object))
        ⊎ (outcome_status outcomes ≡ status.Undetermined)
    chosen_right =
        let right = each_right header_one packet_one h draws limit object sent is.packets are_sent
        (among is.packets is.tail is.front) outcomes is.out in
        ⊎_elim
        (λ (gives : GiveBack h object outcomes). inl (gives.0, is.made_is ∙ gives.1))
        (λ (open_block : outcome_status outcomes ≡ status.Undetermined). inr open_block)
        (come_back h object outcomes are_sent.encoding.header are_sent.long is.out.counted right)

    -- exactly where in no block the positions that came have a null word
    module _ (law : UndeterminedByNullWord) (fewer : NullWordOfSubset)
        (same : ClosureHasSameNullWords) (source : NullWordHoldsSource) where
      by_words : GiveBack h object outcomes ↔ LackNullWords h draws is.packets
      by_words = decided_by_null_words header_one packet_one h draws limit object sent is.packets
          are_sent (among is.packets is.tail is.front) outcomes is.out law

      -- where the outcomes give the object no null word is left, and further packets bring none
      done_lacks : outcome_status outcomes ≡ status.Done → LackNullWords h draws came
      done_lacks done b m inside code word null =
          let right = each_right header_one packet_one h draws limit object sent is.packets are_sent
          (among is.packets is.tail is.front) outcomes is.out in
          let gives : GiveBack h object outcomes = ⊎_elim
          (λ (g : GiveBack h object outcomes). g)
          (λ (open_block : outcome_status outcomes ≡ status.Undetermined). absurd
          (cc (done, open_block)))
          (come_back h object outcomes are_sent.encoding.header are_sent.long is.out.counted right)
          in
          by_words.0 gives b m inside code word
          (fewer m (positions (arrivals_of b is.packets)) (positions (arrivals_of b came)) word
          (λ e here. subst (λ (l : List Packet). positions (arrivals_of b l) e ≡ true)
          (sym is.front) (more_came b is.packets is.tail e here)) null)

      lacks_done : LackNullWords h draws came → outcome_status outcomes ≡ status.Done
      lacks_done lacks = ⊎_elim
          (λ (none : is.tail ≡ []).
          let whole : came ≡ is.packets = is.front ∙ ap (λ (l : List Packet). is.packets ++ l) none
          ∙ append-nil is.packets in
          (by_words.1 (subst (LackNullWords h draws) whole lacks)).0)
          (λ (whole : IsWhole h is.code is.packets).
          (peeled_give_back header_one packet_one h draws limit object sent is.packets are_sent
          (among is.packets is.tail is.front) outcomes is.out
          (whole_peeled header_one packet_one h draws limit object sent is.packets are_sent
          (among is.packets is.tail is.front) outcomes is.out same source is.code is.codes
          whole)).0)
          is.over

      pub words_decide : (outcome_status outcomes ≡ status.Done) ↔ LackNullWords h draws came
      words_decide = (done_lacks, lacks_done)

    -- and all of them decode to it, each block by peeling
    module _ (all : AreAmong sent came) (holds : ClosureHolds) (same : ClosureHasSameNullWords)
        (source : NullWordHoldsSource) where
      peeled : EachBlock IsByPeeling h object outcomes
      peeled = ⊎_elim
          (λ (none : is.tail ≡ []).
          let whole : came ≡ is.packets = is.front ∙ ap (λ (l : List Packet). is.packets ++ l) none
          ∙ append-nil is.packets in
          all_peeled header_one packet_one h draws limit object sent is.packets are_sent
          (among is.packets is.tail is.front) outcomes is.out holds same source
          (subst (AreAmong sent) whole all))
          (λ (whole : IsWhole h is.code is.packets). whole_peeled header_one packet_one h draws
          limit object sent is.packets are_sent (among is.packets is.tail is.front) outcomes
          is.out same source is.code is.codes whole)
          is.over

      pub all_decode : (outcome_status outcomes ≡ status.Done) × (made ≡ object)
          × EachBlock IsByPeeling h object outcomes
      all_decode =
          let gives = peeled_give_back header_one packet_one h draws limit object sent is.packets
          are_sent (among is.packets is.tail is.front) outcomes is.out peeled in
          (gives.0, is.made_is ∙ gives.1, peeled)

-- the packets of an object's file
pub file_sent : HeaderIsOne → PacketIsOne
    → (h : HeaderFields) (draws : Option ℕ) (object file text : List ℕ)
    → h.oti.length ≡ length object → (encoding : IsEncoding h draws object file text)
    → AreSent h draws object (packet_list 0 encoding.words)
    × (file ≡ header_bytes h ++ spelled h (packet_list 0 encoding.words))
file_sent header_one packet_one h draws object file text long encoding =
    let bytes : file ≡ header_bytes h ++ spelled h (packet_list 0 encoding.words) = encoding.file_is
    ∙ ap (λ (l : List ℕ). header_bytes h ++ l) (sym (list_spelled h 0 encoding.words)) in (
      record {
        long = long;
        file = file;
        report = text;
        most = length (packet_list 0 encoding.words);
        encoding = encoding;
        packets_are = record {
          header = encoding.header;
          each = list_of_file header_one packet_one h draws object encoding.words long
              encoding.header encoding.encoded;
          few = omega arith;
          bytes_are = bytes;
        };
      },
      bytes,
    )
