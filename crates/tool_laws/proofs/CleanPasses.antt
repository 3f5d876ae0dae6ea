-- What a pass over a packet file comes to where nothing outside fails.
use Rattle.std.proofs.Common.{◌≡◌, inl, inr, ⊎_elim, ℕ, List, ◌++◌, length, Option}
use Rattle.std.proofs.Common.{Some, refl, sym, ap, ap₂, ◌∙◌, subst, append_assoc, append-nil}
use Rattle.std.proofs.Common.{[], ◌∷◌, All, Contains}
use Rattle.std.proofs.lemmas.List.{append_cancel_left}
use Rattle.std.proofs.lemmas.List.Elements.{All-contains, Contains-append_left, Contains-push}
use Rattle.std.specs.Io.KnownBytes.{Appends, Consumes}
use Rattle.fec_base.specs.Outside.{stream}
use Rattle.packet_file.specs.Header.{HeaderFields, header_bytes}
use Rattle.packet_file.specs.Laws.{HeaderIsOne, PacketIsOne}
use Rattle.packet_file.specs.Packets.{Packet, spelled}
use Rattle.packet_file.specs.FaultLaws.{PacketsAreNoBadPiece}
use Rattle.packet_file.specs.OneReading.{LacksHeader, ReadsFile, Stop, stop_by}
use Rattle.packet_file.specs.OneReading.Stop.{End, Enough, Failed, Bad}
use Rattle.packet_file.specs.declared.fault.FileFault.{FileFault}
use Rattle.packet_file.specs.declared.fault.FileFault.TheVariants.{ReadFault}
use Rattle.packet_pass.specs.Pass.{PassEnds, PassesWhole}
use Rattle.packet_pass.specs.Pass.{IsFitFor, head_of, loss_in, seed_in, texts}
use Rattle.packet_pass.specs.Thinned.{kept_of}
use Rattle.packet_pass.specs.declared.kind.Pass.{Pass}
use Rattle.packet_pass.specs.declared.kind.Passed.{Passed}
use Rattle.packet_pass.specs.declared.kind.PassRefusal.TheVariants as early
use Rattle.tool_base.specs.declared.status.Status.{Status}
use Rattle.tool_base.specs.declared.status.Status.TheVariants as status
use Rattle.tool_base.specs.Outside.{Streams}
use Rattle.tool_commands.specs.PassRun.{IsPassRun, PassDue, RefusesPass, pass_report}
use Rattle.packet_file.specs.Files.{IsPacketFile}
use Rattle.tool_laws.specs.RunLaws.{NothingFails, OrMemory, WritesText, counts_of}
use Rattle.tool_base.specs.declared.causes.Refusal.{Refusal}
use Rattle.tool_base.specs.declared.causes.Refusal.TheVariants.{Draws, File, Memory, Watch}
use Rattle.tool_laws.proofs.NoFault.{front_of, header_taken, packet_taken}
use Rattle.tool_laws.proofs.OneDecoding.{taken_all, taken_of}
use Rattle.packet_file.proofs.OneFile.{file_one, same_fronts}
use Rattle.tool_laws.proofs.HeaderLength.{length_header}
use Rattle.tool_laws.proofs.Uncut.{all_or_memory}

module _ (header_one : HeaderIsOne) (packet_one : PacketIsOne)
    (no_bad : PacketsAreNoBadPiece) (pass : Pass) (h : HeaderFields)
    (packets : List Packet) (bytes : List ℕ) (most : ℕ) (before after : Streams)
    (file : IsPacketFile h most packets bytes) (fit : All (IsFitFor pass h) packets)
    (known : before.input.bytes ≡ Some bytes)
    (clean : NothingFails before after) where
  -- a packet file isn't refused as a header
  not_in_header : (stop : Stop) → LacksHeader before.input after.input stop → ⊥
  not_in_header End lacks = absurd lacks
  not_in_header Enough lacks = absurd lacks
  not_in_header Failed lacks = clean.reads lacks.0
  not_in_header (Bad fault) lacks = header_taken header_one h file.header fault
      (spelled h packets) before.input.faults after.input
      (subst (λ (l : Option (List ℕ)). LacksHeader (stream l before.input.faults) after.input
      (Bad fault)) (known ∙ ap (λ (l : List ℕ). Some l) file.bytes_are) lacks)

  -- what was read of it is of its header, and behind that come the packets that were read
  read_of : (stop : Stop) (other : HeaderFields) (came : List Packet)
      → (read : ReadsFile most before.input after.input other came stop) → (other ≡ h)
      × ((rest : List ℕ) × (after.input.bytes ≡ Some rest)
      × (bytes ≡ (header_bytes other ++ spelled other came) ++ (read.reads.piece ++ rest)))
  read_of stop other came read =
      let piece : List ℕ = read.reads.piece in
      let front : List ℕ = header_bytes other ++ (spelled other came ++ piece) in
      let (rest, left_is, bytes_are) = taken_of bytes after.input.bytes front
      (subst (λ (l : Option (List ℕ)). Consumes l after.input.bytes front) known
      read.reads.taken) in
      let taken : bytes ≡ (header_bytes other ++ spelled other came) ++ (piece ++ rest) =
      bytes_are ∙ ap (λ (l : List ℕ). l ++ rest)
      (sym (append_assoc (header_bytes other) (spelled other came) piece))
      ∙ append_assoc (header_bytes other ++ spelled other came) piece rest in
      let parts = same_fronts (header_bytes other) (header_bytes h)
      (spelled other came ++ (piece ++ rest)) (spelled h packets) (length_header other
      ∙ sym (length_header h))
      (sym (append_assoc (header_bytes other) (spelled other came) (piece ++ rest)) ∙ sym taken
      ∙ file.bytes_are) in
      (header_one other h read.header.bits file.header.bits parts.0, (rest, left_is, taken))

  -- nor at a packet
  not_bad : (fault : FileFault) (other : HeaderFields) (came : List Packet)
      → ReadsFile most before.input after.input other came (Bad fault) → ⊥
  not_bad fault other came read =
      let piece : List ℕ = read.reads.piece in
      let (own, (rest, left_is, taken)) = read_of (Bad fault) other came read in
      let file_now : IsPacketFile other most packets bytes =
      subst (λ (k : HeaderFields). IsPacketFile k most packets bytes) (sym own) file in
      packet_taken packet_one no_bad other most packets bytes file_now fault came
      (stream (Some (piece ++ rest)) 0) after.input read.reads.each taken (
        piece,
        subst (λ (l : Option (List ℕ)). Consumes (Some (piece ++ rest)) l piece) (sym left_is)
            refl,
        read.reads.stopped,
      )

  -- nor is a packet of it one that can't be passed on
  not_unfit : (other : HeaderFields) (came : List Packet) (last : Packet)
      → ReadsFile most before.input after.input other (came ++ last ∷ []) Enough
      → (¬ IsFitFor pass other last) → ⊥
  not_unfit other came last read unfit =
      let all : List Packet = came ++ last ∷ [] in
      let piece : List ℕ = read.reads.piece in
      let (own, (rest, left_is, taken)) = read_of Enough other all read in
      let file_now : IsPacketFile other most packets bytes =
      subst (λ (k : HeaderFields). IsPacketFile k most packets bytes) (sym own) file in
      let same : spelled other all ++ (piece ++ rest) ≡ spelled other packets =
      append_cancel_left (header_bytes other) (spelled other all ++ (piece ++ rest))
      (spelled other packets)
      (sym (append_assoc (header_bytes other) (spelled other all) (piece ++ rest)) ∙ sym taken
      ∙ file_now.bytes_are) in
      let (tail, goes, behind) = front_of packet_one other read.header all packets
      (piece ++ rest) read.reads.each file_now.each same in
      let has : Contains packets last = subst (λ (l : List Packet). Contains l last) (sym goes)
      (Contains-append_left all tail last (Contains-push came last)) in
      let fits : IsFitFor pass h last = All-contains (IsFitFor pass h) packets last fit has in
      unfit (subst (λ (k : HeaderFields). IsFitFor pass k last) (sym own) fits)

  not_behind : (fault : FileFault) (other : HeaderFields) (came : List Packet)
      → ReadsFile most before.input after.input other came (stop_by fault) → ⊥
  not_behind ReadFault other came read = clean.reads read.reads.stopped.0
  not_behind fault other came read = not_bad fault other came read

  -- only memory may lack
  not_refused : (refusal : Refusal) (out : List ℕ)
      → RefusesPass pass most before.input after.input refusal out → refusal ≡ Memory
  not_refused Memory out refuses = refl
  not_refused (File fault) out (inl (none, lacks)) = absurd (not_in_header (stop_by fault) lacks)
  not_refused (File fault) out (inr (inl (other, came, read, own, written))) =
      absurd (not_behind fault other came read)
  not_refused (File fault) out (inr (inr (other, came, last, read, own, unfit, is, written))) =
      absurd (not_unfit other came last read unfit)
  not_refused (Draws b) out refuses = absurd refuses
  not_refused Watch out refuses = absurd refuses

  -- a pass to the end is one over this header and these packets
  whole : (passed : Passed) (out text : List ℕ)
      → PassesWhole pass most before.input after.input passed out → text ≡ pass_report pass passed
      → Appends before.output.bytes after.output.bytes out
      → Appends before.report.bytes after.report.bytes text
      → WritesText pass h packets before after
  whole passed out text w text_is written told =
      let other : HeaderFields = w.header in
      let came : List Packet = w.packets in
      let stands = w.reads.reads in
      let front : List ℕ = header_bytes other ++ (spelled other came ++ stands.piece) in
      let read : front ≡ bytes = taken_all bytes front after.input.bytes
      (subst (λ (l : Option (List ℕ)). Consumes l after.input.bytes front) known stands.taken)
      stands.stopped.1 in
      let file_now : IsPacketFile other most came bytes = record {
        header = w.reads.header;
        each = stands.each;
        few = stands.few;
        bytes_are = sym read ∙ ap (λ (l : List ℕ). header_bytes other ++ l)
            (ap (λ (l : List ℕ). spelled other came ++ l) stands.stopped.0
            ∙ append-nil (spelled other came));
      } in
      let (header_is, packets_are) = file_one header_one packet_one other h most most came
      packets bytes file_now file in
      let own : head_of pass other ++ texts pass other came ≡ head_of pass h
      ++ texts pass h packets =
      ap₂ (λ (k : HeaderFields) (l : List Packet). head_of pass k ++ texts pass k l) header_is
      packets_are in
      let count : passed.packets ≡ length packets = w.counted ∙ ap length packets_are in
      let kept : passed.kept ≡ kept_of (loss_in pass) (seed_in pass) (length packets) = w.kept
      ∙ ap (λ (n : ℕ). kept_of (loss_in pass) (seed_in pass) n) count in
      let same : passed ≡ counts_of pass packets =
      ap₂ (λ (n k : ℕ). record { packets = n; kept = k }) count kept in
      record {
        ended = stands.stopped.1;
        written = subst (Appends before.output.bytes after.output.bytes) (w.text ∙ own) written;
        reported = subst (Appends before.report.bytes after.report.bytes)
            (text_is ∙ ap (pass_report pass) same) told;
      }

  -- what is due is the text
  done_or_not : (ended : Status) (out text : List ℕ)
      → PassDue pass most before.input after.input ended out text
      → (ended ≡ status.Done) × ((passed : Passed)
      × PassesWhole pass most before.input after.input passed out × (text ≡ pass_report pass passed))
  done_or_not status.Done out text due = (refl, due)
  done_or_not status.Memory out text due = absurd due
  done_or_not status.Usage out text due = absurd due
  done_or_not status.ReadFault out text due = absurd due
  done_or_not status.WriteFault out text due = absurd due
  done_or_not status.Malformed out text due = absurd due
  done_or_not status.Draws out text due = absurd due
  done_or_not status.Limit out text due = absurd due
  done_or_not status.Undetermined out text due = absurd due
  done_or_not status.NoCodeword out text due = absurd due
  done_or_not status.WatchFault out text due = absurd due

  -- so it is written, or memory lacks
  pub comes_through : (ended : Status) → IsPassRun pass most before after ended
      → OrMemory ended ((ended ≡ status.Done) × WritesText pass h packets before after)
  comes_through ended run = ⊎_elim
      (λ (memory : ended ≡ status.Memory). inl memory)
      (λ stands. let (out, text, due, written, told) = stands in
      let (done, (passed, w, text_is)) = done_or_not ended out text due in
      inr (done, whole passed out text w text_is written told))
      (all_or_memory before.output after.output before.report after.report clean.writes
      clean.reports ended (PassDue pass most before.input after.input)
      (RefusesPass pass most before.input after.input)
      (PassEnds pass most before.input after.input early.Output) not_refused run)
