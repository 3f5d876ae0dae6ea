-- What an `upgrade` writes decodes as what it read.
use Rattle.std.proofs.Common.{◌≡◌, ℕ, ◌+◌, Bool, true, List, [], ◌∷◌, ◌++◌, length, get_or, take}
use Rattle.std.proofs.Common.{All}
use Rattle.std.proofs.Common.{Option, Some, refl, sym, ap, ◌∙◌, subst, append-nil, inl, inr}
use Rattle.std.proofs.Common.{⊎_elim}
use Rattle.std.specs.Io.KnownBytes.{Consumes}
use Rattle.std.proofs.lemmas.Grind.{flat_map-append}
use Rattle.std.proofs.lemmas.List.{append_cancel_left, take_at}
use Rattle.std.proofs.lemmas.List.Elements.{All-take}
use Rattle.fec_base.specs.Told.{Telling}
use Rattle.fec_session.specs.declared.outcome.Outcome.{Outcome}
use Rattle.packet_file.specs.Files.{HasZeroPadding, IsPacketFile, upgraded}
use Rattle.packet_file.specs.Header.{HeaderFields, header_bytes}
use Rattle.packet_file.specs.Laws.{HeaderIsOne, PacketIsOne, UpgradeHasPackets}
use Rattle.packet_file.specs.Packets.{Packet, packet_bytes, spelled}
use Rattle.packet_file.specs.declared.version.Version.{Version}
use Rattle.packet_file.proofs.OneFile.{header_upgraded, packet_upgraded, same_fronts}
use Rattle.packet_pass.specs.Pass.{texts_from}
use Rattle.packet_pass.specs.declared.kind.Pass.TheVariants.{Upgrade}
use Rattle.object_file.specs.Told.{IsOver, IsWhole}
use Rattle.tool_commands.specs.DecodeRun.{Decodes}
use Rattle.tool_commands.specs.PassRun.{PassDue, RefusesPass}
use Rattle.tool_laws.specs.UpgradeLaws.{IsUpgradeOf, UpgradeDecodesAlike, UpgradeWritesPacketFile}
use Rattle.tool_laws.proofs.EncodedThenDecoded.{appended_all}
use Rattle.tool_laws.proofs.HeaderLength.{length_header}
use Rattle.tool_laws.proofs.NoFault.{front_of, no_packets}
use Rattle.tool_laws.proofs.OneDecoding.{IsRead, decoding_one, read_by, taken_all}
use Rattle.tool_laws.proofs.Uncut.{done_due}

-- the texts of an `upgrade` are the packets of version 2
upgrade_texts : (h : HeaderFields) (first : ℕ) (packets : List Packet)
    → texts_from Upgrade h first packets ≡ spelled (upgraded h) packets
upgrade_texts h first [] = refl
upgrade_texts h first (p ∷ packets) =
    ap (λ (l : List ℕ). packet_bytes (upgraded h) p ++ l) (upgrade_texts h (first + 1) packets)

-- the bytes of a file of this header and these packets
abbrev file_bytes : HeaderFields → List Packet → List ℕ
file_bytes h packets = header_bytes h ++ spelled h packets

pub upgrade_writes : UpgradeHasPackets → UpgradeWritesPacketFile
upgrade_writes has_packets most bytes made u =
    let (out, text, is_due, written, told) = u.run.done refl in
    let (passed, w, report_is) = done_due (PassDue Upgrade most u.first.input u.last.input)
    (RefusesPass Upgrade most u.first.input u.last.input) out text is_due in
    let read = w.reads.reads in
    let h : HeaderFields = w.header in
    let front : List ℕ = header_bytes h ++ (spelled h w.packets ++ read.piece) in
    let all : front ≡ bytes = taken_all bytes front u.last.input.bytes
    (subst (λ (l : Option (List ℕ)). Consumes l u.last.input.bytes front) u.read read.taken)
    read.stopped.1 in
    let whole : bytes ≡ file_bytes h w.packets = sym all
    ∙ ap (λ (l : List ℕ). header_bytes h ++ l) (ap (λ (l : List ℕ). spelled h w.packets ++ l)
    read.stopped.0 ∙ append-nil (spelled h w.packets)) in
    let file : IsPacketFile h most w.packets bytes = record {
      header = w.reads.header;
      each = read.each;
      few = read.few;
      bytes_are = whole;
    } in
    let made_is : made ≡ file_bytes (upgraded h) w.packets =
    appended_all made out u.first.output.bytes u.last.output.bytes u.empty u.wrote written
    ∙ (w.text ∙ ap (λ (l : List ℕ). header_bytes (upgraded h) ++ l)
    (upgrade_texts h 0 w.packets)) in
    record {
      header = h;
      packets = w.packets;
      read = file;
      padding = w.fit;
      wrote = subst (IsPacketFile (upgraded h) most w.packets) (sym made_is)
          (has_packets h most w.packets bytes file w.fit);
      unchanged = λ two. made_is ∙ ap (λ (v : Version).
          file_bytes (record h { version = v }) w.packets) (sym two) ∙ sym whole;
    }

-- ---- a `decode` of a file is one of its upgrade

module _ (header_one : HeaderIsOne) (packet_one : PacketIsOne) (h : HeaderFields) (read : ℕ)
    (packets : List Packet) (bytes : List ℕ) (file : IsPacketFile h read packets bytes)
    (zero : All (HasZeroPadding h) packets) (draws : Option ℕ) (early : Bool) (most : ℕ)
    (left : Option (List ℕ)) (told told_now : Option (List Telling)) (outcomes : List Outcome)
    (object report : List ℕ)
    (d : Decodes draws early most (Some bytes) left told told_now outcomes object report) where
  mine : IsRead draws early most bytes left d.header d.code d.packets
  mine = read_by draws early most bytes d.mid left d.header d.code d.packets d.opens
      d.stands.packets_are d.stands.taken d.over

  header_is : d.header ≡ h
  header_is =
      let parts = same_fronts (header_bytes d.header) (header_bytes h)
      (spelled d.header d.packets ++ mine.rest) (spelled h packets) (length_header d.header
      ∙ sym (length_header h)) (sym mine.bytes_are ∙ file.bytes_are) in
      header_one d.header h mine.header.bits file.header.bits parts.0

  own : IsPacketFile d.header read packets bytes
  own = subst (λ (k : HeaderFields). IsPacketFile k read packets bytes) (sym header_is) file

  -- the packets that it took are a front of the file's
  front : (tail : List Packet) × (packets ≡ d.packets ++ tail)
      × (mine.rest ≡ spelled d.header tail ++ [])
  front = front_of packet_one d.header mine.header d.packets packets mine.rest
      d.stands.packets_are.each own.each
      (append_cancel_left (header_bytes d.header) (spelled d.header d.packets ++ mine.rest)
      (spelled d.header packets) (sym mine.bytes_are ∙ own.bytes_are))

  zero_front : All (HasZeroPadding d.header) d.packets
  zero_front = subst (All (HasZeroPadding d.header)) (ap (take (length d.packets)) front.1
      ∙ take_at d.packets front.0 (length d.packets) refl)
      (All-take (HasZeroPadding d.header) (length d.packets) packets
      (subst (λ (k : HeaderFields). All (HasZeroPadding k) packets) (sym header_is) zero))

  abbrev second : HeaderFields
  second = upgraded d.header

  -- where the file was taken to its end, so was its upgrade
  over : IsOver early (Some (spelled second front.0)) second d.code d.packets
  over = ⊎_elim
      (λ (end : mine.rest ≡ []).
      let none : front.0 ≡ [] = no_packets d.header front.0 [] (sym front.2 ∙ end) in
      inl (ap (spelled second) none))
      (λ (whole : (early ≡ true) × IsWhole d.header d.code d.packets). inr whole)
      mine.over

  upgraded_by : Decodes draws early most (Some (file_bytes second packets))
      (Some (spelled second front.0)) told told_now outcomes object report
  upgraded_by = record {
    header = second;
    code = d.code;
    packets = d.packets;
    mid = Some (spelled second packets);
    opens = record {
      header = header_upgraded d.header mine.header;
      codes = d.opens.codes;
      taken = refl;
    };
    stands = record {
      packets_are = record {
        each = λ k p lt. packet_upgraded d.header (get_or d.packets k p)
            (d.stands.packets_are.each k p lt) (zero_front k p lt);
        few = d.stands.packets_are.few;
        least = d.stands.packets_are.least;
      };
      taken = ap (spelled second) front.1
          ∙ flat_map-append (packet_bytes second) d.packets front.0
          ∙ ap (λ (l : List ℕ). l ++ spelled second front.0)
          (sym (append-nil (spelled second d.packets)));
      told_of = record {
        tellings = d.stands.told_of.tellings;
        grown = d.stands.told_of.grown;
        at = d.stands.told_of.at;
        each = d.stands.told_of.each;
      };
    };
    over = over;
    counted = d.counted;
    determined = d.determined;
    object_is = d.object_is;
    report_is = d.report_is;
  }

  pub of_upgrade : (rest : Option (List ℕ)) × Decodes draws early most
      (Some (file_bytes (upgraded h) packets)) rest told told_now outcomes object report
  of_upgrade = (
    Some (spelled second front.0),
    subst (λ (k : HeaderFields). Decodes draws early most
        (Some (file_bytes (upgraded k) packets)) (Some (spelled second front.0)) told told_now
        outcomes object report) header_is upgraded_by,
  )

pub upgrade_decodes : HeaderIsOne → PacketIsOne → UpgradeHasPackets → UpgradeDecodesAlike
upgrade_decodes header_one packet_one has_packets read bytes made draws limit early most highest
    told left other_left told_now other_told outcomes others object other report other_report u
    first last =
    let is : IsUpgradeOf read bytes made = upgrade_writes has_packets read bytes made u in
    let made_is : made ≡ file_bytes (upgraded is.header) is.packets = is.wrote.bytes_are in
    let (rest, same) = of_upgrade header_one packet_one is.header read is.packets bytes is.read
    is.padding draws early most left told told_now outcomes object report first in
    let alike = decoding_one header_one packet_one draws limit early most highest made told rest
    other_left told_now other_told outcomes others object other report other_report
    (subst (λ (l : List ℕ). Decodes draws early most (Some l) rest told told_now outcomes object
    report) (sym made_is) same) last in
    (alike.0, alike.1, alike.2, alike.4, alike.5)
