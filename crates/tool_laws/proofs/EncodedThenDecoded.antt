-- A `decode` of what an `encode` wrote.
use Rattle.std.proofs.Common.{◌≡◌, ℕ, ◌≤◌, Bool, List, [], length, Option, Some, refl, sym, subst}
use Rattle.std.proofs.Common.{arith}
use Rattle.std.specs.Io.KnownBytes.{Appends, Consumes}
use Rattle.std.proofs.lemmas.List.Elements.{All-contains_itself}
use Rattle.sparse_rows.specs.Laws.{NullWordHoldsSource}
use Rattle.null_witness.specs.Laws.{ClosureHasSameNullWords}
use Rattle.peeling.specs.Laws.{ClosureHolds}
use Rattle.packet_file.specs.Header.{HeaderFields, total_symbols}
use Rattle.packet_file.specs.Laws.{HeaderIsOne, PacketIsOne}
use Rattle.packet_file.specs.FaultLaws.{PacketsAreNoBadPiece}
use Rattle.packet_file.specs.Packets.{Packet}
use Rattle.tool_base.specs.declared.status.Status.{Status}
use Rattle.tool_base.specs.declared.status.Status.TheVariants as status
use Rattle.object_file.specs.File.{IsEncoding}
use Rattle.object_file.specs.Options.{header_for}
use Rattle.fec_base.specs.Outside.{Hearing}
use Rattle.tool_base.specs.Outside.{Streams}
use Rattle.tool_commands.specs.EncodeRun.{EncodeDue, Encoded, IsEncodeRun, RefusesEncode}
use Rattle.tool_base.specs.Ending.{Unwritten}
use Rattle.packet_file.specs.Files.{IsPacketFile}
use Rattle.tool_laws.specs.RoundTrip.{AreSent}
use Rattle.tool_laws.specs.RunLaws.{IsCleanDecode, OrMemory}
use Rattle.object_file.specs.declared.options.EncodeOptions.{EncodeOptions}
use Rattle.tool_laws.proofs.CleanDecodes.{all_decoded}
use Rattle.tool_laws.proofs.DecodedFiles.{file_sent}
use Rattle.tool_laws.proofs.OneDecoding.{taken_all}
use Rattle.tool_laws.proofs.SentPackets.{list_long, packet_list}
use Rattle.tool_laws.proofs.Uncut.{done_due}

-- what stands where nothing stood is what was appended
pub appended_all : (now : List ℕ) (file : List ℕ) (old new : Option (List ℕ)) → old ≡ Some []
    → new ≡ Some now → Appends old new file → now ≡ file
appended_all now file old new first last appends =
    subst (λ (l : Option (List ℕ)). Appends l (Some now) file) first
    (subst (λ (l : Option (List ℕ)). Appends old l file) last appends)

-- what an `encode` wrote is the packet file of what it read
encoding_of : (o : EncodeOptions) (first last : Streams) (object file : List ℕ)
    → IsEncodeRun o first last status.Done → first.input.bytes ≡ Some object
    → first.output.bytes ≡ Some [] → last.output.bytes ≡ Some file
    → (text : List ℕ) × IsEncoding (header_for o (length object)) o.shape.draws object file text
encoding_of o first last object file encodes input output made =
    let (made_file, text, is_due, written, told) = encodes.ends.done refl in
    let e : Encoded o first.input last.input made_file text =
    done_due (EncodeDue o first.input last.input) (Unwritten (RefusesEncode o first.input
    last.input)) made_file text is_due in
    let object_is : e.object ≡ object = taken_all object e.object last.input.bytes
    (subst (λ (l : Option (List ℕ)). Consumes l last.input.bytes e.object) input e.reads.read)
    e.reads.ended in
    let file_is : file ≡ made_file = appended_all file made_file first.output.bytes
    last.output.bytes output made written in (
      text,
      subst (λ (l : List ℕ). IsEncoding (header_for o (length object)) o.shape.draws object l text)
          (sym file_is)
          (subst (λ (l : List ℕ). IsEncoding (header_for o (length l)) o.shape.draws l made_file
          text) object_is e.encoding),
    )

module _ (header_one : HeaderIsOne) (packet_one : PacketIsOne) (no_bad : PacketsAreNoBadPiece)
    (holds : ClosureHolds)
    (same : ClosureHasSameNullWords) (source : NullWordHoldsSource) where
  -- the file of an object decodes to it
  file_decoded : (h : HeaderFields) (draws limit : Option ℕ) (object file text : List ℕ)
      (early : Bool) (most : ℕ) (before after : Streams) (watch watch_now : Hearing)
      (ended : Status)
      → h.oti.length ≡ length object → IsEncoding h draws object file text → total_symbols h ≤ most
      → IsCleanDecode h file limit early most before after watch watch_now ended
      → OrMemory ended ((ended ≡ status.Done) × Appends before.output.bytes after.output.bytes
      object)
  file_decoded h draws limit object file text early most before after watch watch_now ended long
      encoding enough run =
      let sent : List Packet = packet_list 0 encoding.words in
      let are_sent = file_sent header_one packet_one h draws object file text long encoding in
      let few : length sent ≤ most =
      omega (
        arith,
        list_long header_one packet_one h draws object encoding.words long
            encoding.header encoding.encoded,
        enough,
      ) in
      all_decoded header_one packet_one no_bad h draws limit object sent sent early most before
      after watch watch_now ended are_sent.0 (All-contains_itself sent) few
      (subst (λ (bytes : List ℕ). IsCleanDecode h bytes limit early most before after watch
      watch_now ended) are_sent.1 run) holds same source (All-contains_itself sent)

  -- and so does what an `encode` wrote
  pub encoded_decoded : (o : EncodeOptions) (first last : Streams) (object file : List ℕ)
      (limit : Option ℕ) (early : Bool) (most : ℕ) (before after : Streams)
      (watch watch_now : Hearing) (ended : Status)
      → IsEncodeRun o first last status.Done → first.input.bytes ≡ Some object
      → first.output.bytes ≡ Some [] → last.output.bytes ≡ Some file
      → total_symbols (header_for o (length object)) ≤ most
      → IsCleanDecode (header_for o (length object)) file limit early most before after watch
      watch_now ended
      → OrMemory ended ((ended ≡ status.Done) × Appends before.output.bytes after.output.bytes
      object)
  encoded_decoded o first last object file limit early most before after watch watch_now ended
      encodes input output made enough run =
      let (text, encoding) = encoding_of o first last object file encodes input output made in
      file_decoded (header_for o (length object)) o.shape.draws limit object file text early most
      before after watch watch_now ended refl encoding enough run

-- the packets of what an `encode` wrote
pub encoded_file : HeaderIsOne → PacketIsOne → (o : EncodeOptions) (first last : Streams)
    (object file : List ℕ)
    → IsEncodeRun o first last status.Done → first.input.bytes ≡ Some object
    → first.output.bytes ≡ Some [] → last.output.bytes ≡ Some file
    → (packets : List Packet) × AreSent (header_for o (length object)) o.shape.draws object packets
    × IsPacketFile (header_for o (length object)) (length packets) packets file
    × (length packets ≤ total_symbols (header_for o (length object)))
encoded_file header_one packet_one o first last object file encodes input output made =
    let h = header_for o (length object) in
    let (text, encoding) = encoding_of o first last object file encodes input output made in
    let packets : List Packet = packet_list 0 encoding.words in
    let are_sent = file_sent header_one packet_one h o.shape.draws object file text refl
    encoding in (
      packets,
      are_sent.0,
      record {
        header = encoding.header;
        each = are_sent.0.packets_are.each;
        few = omega arith;
        bytes_are = are_sent.1;
      },
      omega (
        arith,
        list_long header_one packet_one h o.shape.draws object encoding.words refl encoding.header
            encoding.encoded,
      ),
    )
