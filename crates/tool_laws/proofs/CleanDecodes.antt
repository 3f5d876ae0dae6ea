-- What a `decode` comes to where nothing outside fails.
use Rattle.std.proofs.Common.{◌≡◌, ◌⊎◌, inl, inr, ⊎_elim, ℕ, ◌≤◌, Bool, List, ◌++◌, length}
use Rattle.std.proofs.Common.{get_or, Option, Some, refl, sym, ap, ◌∙◌, subst, append_assoc}
use Rattle.std.specs.Io.KnownBytes.{Appends, Consumes, Keeps}
use Rattle.std.proofs.lemmas.List.Elements.{All-contains}
use Rattle.fec_base.specs.Causes.{Rose}
use Rattle.sparse_rows.specs.Laws.{NullWordHoldsSource}
use Rattle.sparse_rows.specs.Matrix.{Matrix}
use Rattle.null_witness.specs.Laws.{ClosureHasSameNullWords, NullWordOfSubset}
use Rattle.null_witness.specs.Laws.{UndeterminedByNullWord}
use Rattle.peeling.specs.Laws.{ClosureHolds}
use Rattle.packet_file.specs.Header.{HeaderFields, IsHeader, header_bytes}
use Rattle.packet_file.specs.Laws.{HeaderIsOne, PacketIsOne}
use Rattle.packet_file.specs.Packets.{IsPacketOf, Packet, spelled}
use Rattle.packet_file.specs.FaultLaws.{PacketsAreNoBadPiece}
use Rattle.packet_file.specs.OneReading.{IsBadPiece, LacksHeader, Stop, stop_by}
use Rattle.packet_file.specs.OneReading.Stop.{End, Enough, Failed, Bad}
use Rattle.packet_file.specs.declared.fault.FileFault.{FileFault}
use Rattle.packet_file.specs.declared.fault.FileFault.TheVariants.{ReadFault}
use Rattle.tool_base.specs.declared.status.Status.{Status}
use Rattle.tool_base.specs.declared.status.Status.TheVariants as status
use Rattle.object_file.specs.Codes.{IsFirstOver}
use Rattle.fec_base.specs.Outside.{Hearing, stream}
use Rattle.tool_base.specs.Outside.{Streams}
use Rattle.tool_commands.specs.Outcomes.{if_done, outcome_status}
use Rattle.packet_file.specs.Files.{IsPacketFile}
use Rattle.object_file.specs.Told.{HasCodes, Opens, StandsAt}
use Rattle.tool_commands.specs.DecodeRun.{Decided, DecodeDue, Decodes, IsDecodeRun}
use Rattle.object_file.specs.Reception.{FailsBefore, FailsBehind}
use Rattle.object_file.specs.Reception.{RefusesDecode}
use Rattle.tool_laws.specs.RoundTrip.{AreAmong, AreSent, LackNullWords}
use Rattle.tool_laws.specs.RunLaws.{IsCleanDecode, NothingFails, OrMemory}
use Rattle.tool_base.specs.declared.causes.Refusal.{Refusal}
use Rattle.tool_base.specs.declared.causes.Refusal.TheVariants.{Draws, File, Memory, Watch}
use Rattle.tool_laws.proofs.DecodedFiles.{all_decode, chosen_right, words_decide}
use Rattle.tool_laws.proofs.NoFault.{header_taken, packet_taken}
use Rattle.tool_laws.proofs.OneDecoding.{taken_of}
use Rattle.packet_file.proofs.OneFile.{same_fronts}
use Rattle.tool_laws.proofs.HeaderLength.{length_header}
use Rattle.tool_laws.proofs.Uncut.{due_or_memory, kept_of_none}

-- the blocks came out, and what is due of them was written and told
abbrev ComesOut : Option ℕ → Bool → ℕ → Streams → Streams → Hearing → Hearing → Status → Type 0
ComesOut limit early most before after watch watch_now ended =
    (d : Decided limit early most before.input after.input watch watch_now ended)
    × Appends before.output.bytes after.output.bytes (if_done ended d.object)
    × Appends before.report.bytes after.report.bytes d.text

-- ---- a packet file isn't refused

module _ (header_one : HeaderIsOne) (packet_one : PacketIsOne)
    (no_bad : PacketsAreNoBadPiece) (h : HeaderFields)
    (packets : List Packet) (bytes : List ℕ) (limit : Option ℕ) (early : Bool) (most : ℕ)
    (before after : Streams) (watch watch_now : Hearing)
    (file : IsPacketFile h most packets bytes) (known : before.input.bytes ≡ Some bytes) (code : ℕ
    → Matrix) (codes : HasCodes h limit code) (clean : NothingFails before after)
    (heard : ¬ Rose watch.faults watch_now.faults) where
  -- a header that was taken from it is its own
  own_header : (other : HeaderFields) (mid : Option (List ℕ)) → IsHeader other
      → Consumes before.input.bytes mid (header_bytes other) → other ≡ h
  own_header other mid header taken =
      let (rest, mid_is, bytes_are) = taken_of bytes mid (header_bytes other)
      (subst (λ (l : Option (List ℕ)). Consumes l mid (header_bytes other)) known taken) in
      let parts = same_fronts (header_bytes other) (header_bytes h) rest (spelled h packets)
      (length_header other ∙ sym (length_header h)) (sym bytes_are ∙ file.bytes_are) in
      header_one other h header.bits file.header.bits parts.0

  not_lacking : (stop : Stop) → LacksHeader before.input after.input stop → ⊥
  not_lacking End lacks = absurd lacks
  not_lacking Enough lacks = absurd lacks
  not_lacking Failed lacks = clean.reads lacks.0
  not_lacking (Bad fault) lacks = header_taken header_one h file.header fault (spelled h packets)
      before.input.faults after.input
      (subst (λ (l : Option (List ℕ)). LacksHeader (stream l before.input.faults) after.input
      (Bad fault)) (known ∙ ap (λ (l : List ℕ). Some l) file.bytes_are) lacks)

  not_before : (fault : FileFault) → FailsBefore before.input after.input watch watch_now fault → ⊥
  not_before fault (kept, lacks) = not_lacking (stop_by fault) lacks

  -- nor is a piece of it bad
  not_bad : (fault : FileFault) (other : HeaderFields) (code_now : ℕ → Matrix)
      (mid : Option (List ℕ)) (came : List Packet) (piece : List ℕ)
      → Opens limit before.input.bytes mid other code_now
      → StandsAt other code_now early most mid after.input.bytes watch.told watch_now.told came
      piece
      → IsBadPiece other most (length came) after.input piece fault → ⊥
  not_bad fault other code_now mid came piece opens stands bad =
      let own : other ≡ h = own_header other mid opens.header opens.taken in
      let file_now : IsPacketFile other most packets bytes =
      subst (λ (k : HeaderFields). IsPacketFile k most packets bytes) (sym own) file in
      let (behind, mid_is, bytes_are) = taken_of bytes mid (header_bytes other)
      (subst (λ (l : Option (List ℕ)). Consumes l mid (header_bytes other)) known opens.taken)
      in
      let (rest, left_is, behind_is) = taken_of behind after.input.bytes
      (spelled other came ++ piece)
      (subst (λ (l : Option (List ℕ)). Consumes l after.input.bytes (spelled other came ++ piece))
      mid_is stands.taken) in
      let taken : bytes ≡ (header_bytes other ++ spelled other came) ++ (piece ++ rest) =
      bytes_are ∙ ap (λ (l : List ℕ). header_bytes other ++ l) (behind_is
      ∙ append_assoc (spelled other came) piece rest)
      ∙ sym (append_assoc (header_bytes other) (spelled other came) (piece ++ rest)) in
      packet_taken packet_one no_bad other most packets bytes file_now fault came
      (stream (Some (piece ++ rest)) 0) after.input stands.packets_are.each taken (
        piece,
        subst (λ (l : Option (List ℕ)). Consumes (Some (piece ++ rest)) l piece) (sym left_is)
            refl,
        bad,
      )

  not_behind : (fault : FileFault) → FailsBehind limit early most before.input after.input watch
      watch_now (File fault) → ⊥
  not_behind ReadFault (other, code_now, mid, opens, (came, piece, stands, wanted, stops)) =
      clean.reads stops.0
  not_behind fault (other, code_now, mid, opens, (came, piece, stands, wanted, stops)) =
      not_bad fault other code_now mid came piece opens stands stops

  -- only memory may lack
  not_refused : (refusal : Refusal) → RefusesDecode limit early most before.input after.input watch
      watch_now refusal → refusal ≡ Memory
  not_refused Memory refuses = refl
  not_refused (File fault) refuses = absurd (⊎_elim (not_before fault) (not_behind fault) refuses)
  not_refused (Draws b) (other, header, taken, over, kept) =
      let own : other ≡ h = own_header other after.input.bytes header taken in
      let first : IsFirstOver h limit b = subst (λ (k : HeaderFields). IsFirstOver k limit b) own
      over in
      absurd (cc (first.over, codes b first.block))
  not_refused Watch (other, code_now, mid, opens, fails) = absurd (heard fails.0)

  -- so its blocks come out
  pub decided : (ended : Status) → IsDecodeRun limit early most before after watch watch_now ended
      → OrMemory ended (ComesOut limit early most before after watch watch_now ended)
  decided ended run = ⊎_elim
      (λ (memory : ended ≡ status.Memory). inl memory)
      (λ stands. let (out, text, (d, object, said), written, told) = stands in inr (
        d,
        subst (Appends before.output.bytes after.output.bytes) object written,
        subst (Appends before.report.bytes after.report.bytes) said told,
      ))
      (due_or_memory before.output after.output before.report after.report clean.writes
      clean.reports ended (DecodeDue limit early most before.input after.input watch watch_now)
      (RefusesDecode limit early most before.input after.input watch watch_now) not_refused run)

-- ---- by packets that are chosen from an object's file

module _ (header_one : HeaderIsOne) (packet_one : PacketIsOne)
    (no_bad : PacketsAreNoBadPiece) (h : HeaderFields)
    (draws limit : Option ℕ) (object : List ℕ) (sent came : List Packet) (early : Bool) (most : ℕ)
    (before after : Streams) (watch watch_now : Hearing) (ended : Status)
    (are_sent : AreSent h draws object sent) (chosen : AreAmong came sent)
    (few : length came ≤ most)
    (run : IsCleanDecode h (header_bytes h ++ spelled h came) limit early most before after watch
    watch_now ended) where
  came_file : IsPacketFile h most came (header_bytes h ++ spelled h came)
  came_file = record {
    header = are_sent.encoding.header;
    each = λ k d lt. All-contains (IsPacketOf h) sent (get_or came k d) are_sent.packets_are.each
        (chosen k d lt);
    few = few;
    bytes_are = refl;
  }

  -- a run that came out decodes these bytes
  bytes_decode : (status_now : Status) (d : Decided limit early most before.input after.input watch
      watch_now status_now)
      → Decodes limit early most (Some (header_bytes h ++ spelled h came)) after.input.bytes
      watch.told watch_now.told d.outcomes d.object d.text
  bytes_decode status_now d = subst (λ (l : Option (List ℕ)). Decodes limit early most l
      after.input.bytes watch.told watch_now.told d.outcomes d.object d.text) run.bytes_are
      d.decodes

  -- so that what it writes is the object
  writes_object : ended ≡ status.Done
      → ComesOut limit early most before after watch watch_now ended
      → Appends before.output.bytes after.output.bytes object
  writes_object is (d, written, told) =
      let right = chosen_right header_one packet_one limit early most h draws object sent came
      are_sent chosen after.input.bytes watch.told watch_now.told d.outcomes d.object d.text
      (bytes_decode ended d) in
      let made : d.object ≡ object =
      ⊎_elim (λ (r : (outcome_status d.outcomes ≡ status.Done) × (d.object ≡ object)). r.1)
      (λ (e : outcome_status d.outcomes ≡ status.Undetermined). absurd
      (cc (e, d.status, is))) right in
      subst (Appends before.output.bytes after.output.bytes)
      (ap (λ s. if_done s d.object) is ∙ made) written

  module _ (law : UndeterminedByNullWord) (fewer : NullWordOfSubset)
      (same : ClosureHasSameNullWords) (source : NullWordHoldsSource) where
    abbrev Written : Type 0
    Written = ((ended ≡ status.Done) × Appends before.output.bytes after.output.bytes object
        × LackNullWords h draws came)
        ⊎ ((ended ≡ status.Undetermined) × Keeps before.output.bytes after.output.bytes
        × (¬ LackNullWords h draws came))

    written : ComesOut limit early most before after watch watch_now ended → Written
    written (d, out, told) =
        let decodes = bytes_decode ended d in
        let exactly = words_decide header_one packet_one limit early most h draws object sent came
        are_sent chosen after.input.bytes watch.told watch_now.told d.outcomes d.object d.text
        decodes law fewer same source in
        ⊎_elim
        (λ (r : (outcome_status d.outcomes ≡ status.Done) × (d.object ≡ object)).
        let is : ended ≡ status.Done = sym d.status ∙ r.0 in
        inl (is, writes_object is (d, out, told), exactly.0 r.0))
        (λ (e : outcome_status d.outcomes ≡ status.Undetermined).
        let is : ended ≡ status.Undetermined = sym d.status ∙ e in
        inr (
          is,
          kept_of_none before.output.bytes after.output.bytes
              (subst (Appends before.output.bytes after.output.bytes)
              (ap (λ s. if_done s d.object) is) out),
          λ lacks. absurd (cc (exactly.1 lacks, e)),
        ))
        (chosen_right header_one packet_one limit early most h draws object sent came are_sent
        chosen after.input.bytes watch.told watch_now.told d.outcomes d.object d.text decodes)

    pub chosen_decoded : OrMemory ended Written
    chosen_decoded = ⊎_elim
        (λ (memory : ended ≡ status.Memory). inl memory)
        (λ (d : ComesOut limit early most before after watch watch_now ended). inr (written d))
        (decided header_one packet_one no_bad h came (header_bytes h ++ spelled h came) limit
        early most before after watch watch_now came_file run.bytes_are run.code run.codes run.clean
        run.heard ended run.run)

  -- and all packets give it
  pub all_decoded : ClosureHolds → ClosureHasSameNullWords → NullWordHoldsSource
      → AreAmong sent came → OrMemory ended ((ended ≡ status.Done) × Appends before.output.bytes
      after.output.bytes object)
  all_decoded holds same source all = ⊎_elim
      (λ (memory : ended ≡ status.Memory). inl memory)
      (λ (c : ComesOut limit early most before after watch watch_now ended).
      let d = c.0 in
      let whole = all_decode header_one packet_one limit early most h draws object sent came
      are_sent chosen after.input.bytes watch.told watch_now.told d.outcomes d.object d.text
      (bytes_decode ended d) all holds same source in
      let is : ended ≡ status.Done = sym d.status ∙ whole.0 in
      inr (is, writes_object is c))
      (decided header_one packet_one no_bad h came (header_bytes h ++ spelled h came) limit early
      most before after watch watch_now came_file run.bytes_are run.code run.codes run.clean
      run.heard ended run.run)
