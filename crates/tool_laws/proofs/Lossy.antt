-- What a `lose` leaves is a packet file, and what comes back of it.
use Rattle.std.proofs.Common.{◌≡◌, ⊎_elim, inl, inr, Bool, true, false, zero, suc, ◌+◌, ◌≤◌}
use Rattle.std.proofs.Common.{List, [], ◌∷◌, ◌++◌, length, get_or, All, Option, ℕ, refl, sym}
use Rattle.std.proofs.Common.{ap, ◌∙◌, subst, arith, append-nil}
use Rattle.std.specs.List.{Contains}
use Rattle.std.specs.Io.KnownBytes.{Appends, Consumes, Keeps}
use Rattle.loss_patterns.specs.Keeps.{keeps}
use Rattle.loss_patterns.specs.declared.kind.LossKind.{LossKind}
use Rattle.null_witness.specs.Laws.{ClosureHasSameNullWords, NullWordOfSubset}
use Rattle.null_witness.specs.Laws.{UndeterminedByNullWord}
use Rattle.object_file.specs.Options.{header_for}
use Rattle.packet_file.specs.Header.{HeaderFields, header_bytes}
use Rattle.packet_file.specs.FaultLaws.{PacketsAreNoBadPiece}
use Rattle.packet_file.specs.Laws.{HeaderIsOne, PacketIsOne}
use Rattle.packet_file.specs.Packets.{IsPacketOf, Packet, packet_bytes, spelled}
use Rattle.packet_pass.specs.Pass.{kept_in, texts_from}
use Rattle.packet_pass.specs.declared.kind.Pass.TheVariants.{Lose}
use Rattle.sparse_rows.specs.Laws.{NullWordHoldsSource}
use Rattle.tool_base.specs.declared.status.Status.TheVariants as status
use Rattle.tool_commands.specs.PassRun.{PassDue, RefusesPass}
use Rattle.tool_laws.specs.LossLaws.{LossLeavesPacketFile, LostIsNeverDecodedWrong}
use Rattle.tool_laws.specs.RoundTrip.{AreAmong, LackNullWords}
use Rattle.tool_laws.specs.RunLaws.{IsCleanDecode}
use Rattle.tool_laws.proofs.CleanDecodes.{chosen_decoded}
use Rattle.tool_laws.proofs.EncodedThenDecoded.{appended_all, encoded_file}
use Rattle.tool_laws.proofs.OneDecoding.{taken_all}
use Rattle.packet_file.proofs.OneFile.{file_one}
use Rattle.tool_laws.proofs.Uncut.{done_due}

-- one item in front
all_more : {X : Type 0} (P : X → Type 0) (x : X) (xs : List X) → P x → All P xs → All P (x ∷ xs)
all_more P x xs first rest zero d lt = first
all_more P x xs first rest (suc k) d lt = rest k d (omega arith)

contains_more : {X : Type 0} (x y : X) (xs : List X) → Contains xs y → Contains (x ∷ xs) y
contains_more x y xs (k, lt, is) = (suc k, omega arith, is)

-- packets that are kept of some: their texts are the texts of a pass
record Kept (h : HeaderFields) (loss : LossKind) (seed first : ℕ) (packets : List Packet) : Type 0
  where
    pub kept : List Packet
    pub text : texts_from (Lose loss seed) h first packets ≡ spelled h kept
    pub few : length kept ≤ length packets
    pub among : All (Contains packets) kept
    pub each : All (IsPacketOf h) packets → All (IsPacketOf h) kept

-- one packet more in front, which is kept or not
module _ (h : HeaderFields) (loss : LossKind) (seed first : ℕ) (p : Packet) (packets : List Packet)
    (rest : Kept h loss seed (first + 1) packets) where
  wider : All (Contains (p ∷ packets)) rest.kept
  wider k d lt = contains_more p (get_or rest.kept k d) packets (rest.among k d lt)

  behind : All (IsPacketOf h) (p ∷ packets) → All (IsPacketOf h) packets
  behind all k d lt = all (suc k) d (omega arith)

  keep_one : (b : Bool) → keeps loss seed first ≡ b → Kept h loss seed first (p ∷ packets)
  keep_one true is = record {
    kept = p ∷ rest.kept;
    text = ap (λ keep. kept_in keep (packet_bytes h p)
        ++ texts_from (Lose loss seed) h (first + 1) packets) is
        ∙ ap (λ l. packet_bytes h p ++ l) rest.text;
    few = omega (arith, rest.few);
    among = all_more (Contains (p ∷ packets)) p rest.kept (0, omega arith, refl) wider;
    each = λ all. all_more (IsPacketOf h) p rest.kept (all 0 p (omega arith))
        (rest.each (behind all));
  }
  keep_one false is = record {
    kept = rest.kept;
    text = ap (λ keep. kept_in keep (packet_bytes h p)
        ++ texts_from (Lose loss seed) h (first + 1) packets) is ∙ rest.text;
    few = omega (arith, rest.few);
    among = wider;
    each = λ all. rest.each (behind all);
  }

keep_from : (h : HeaderFields) (loss : LossKind) (seed first : ℕ) (packets : List Packet)
    → Kept h loss seed first packets
keep_from h loss seed first [] = record {
  kept = [];
  text = refl;
  few = omega arith;
  among = λ k d lt. absurd (omega arith);
  each = λ all k d lt. absurd (omega arith);
}
keep_from h loss seed first (p ∷ packets) = keep_one h loss seed first p packets
    (keep_from h loss seed (first + 1) packets) (keeps loss seed first) refl

pub loss_leaves : LossLeavesPacketFile
loss_leaves loss seed most before after bytes left run known none made =
    let (out, text, is_due, written, told) = run.done refl in
    let (passed, w, report_is) = done_due (PassDue (Lose loss seed) most before.input after.input)
    (RefusesPass (Lose loss seed) most before.input after.input) out text is_due in
    let read = w.reads.reads in
    let kept = keep_from w.header loss seed 0 w.packets in
    let front : List ℕ = header_bytes w.header ++ (spelled w.header w.packets ++ read.piece) in
    let all : front ≡ bytes = taken_all bytes front after.input.bytes
    (subst (λ (l : Option (List ℕ)). Consumes l after.input.bytes front) known read.taken)
    read.stopped.1 in (
      w.header,
      w.packets,
      kept.kept,
      record {
        header = w.reads.header;
        each = read.each;
        few = read.few;
        bytes_are = sym all ∙ ap (λ (l : List ℕ). header_bytes w.header ++ l)
            (ap (λ (l : List ℕ). spelled w.header w.packets ++ l) read.stopped.0
            ∙ append-nil (spelled w.header w.packets));
      },
      record {
        header = w.reads.header;
        each = kept.each read.each;
        few = omega (arith, kept.few, read.few);
        bytes_are = appended_all left out before.output.bytes after.output.bytes none made written
            ∙ (w.text ∙ ap (λ (l : List ℕ). header_bytes w.header ++ l) kept.text);
      },
      kept.among,
      kept.few,
    )

module _ (header_one : HeaderIsOne) (packet_one : PacketIsOne) (no_bad : PacketsAreNoBadPiece)
    (law : UndeterminedByNullWord)
    (fewer : NullWordOfSubset) (same : ClosureHasSameNullWords) (source : NullWordHoldsSource)
  where
    pub never_wrong : LostIsNeverDecodedWrong
    never_wrong o first last object file loss seed read sent came left limit early most before after
        watch watch_now ended encodes input output made loses taken empty lost enough run =
        let (packets, are_sent, file_is, few) = encoded_file header_one packet_one o first last
        object
        file encodes input output made in
        let (h, packets_read, kept, whole, rest, among, fewer_kept) = loss_leaves loss seed read
        sent came file
        left loses taken empty lost in
        let (own, packets_are) = file_one header_one packet_one h (header_for o (length object))
        read (length packets) packets_read packets file whole file_is in
        let chosen : AreAmong kept packets = subst (AreAmong kept) packets_are among in
        let left_is : left ≡ header_bytes (header_for o (length object))
        ++ spelled (header_for o (length object)) kept =
        rest.bytes_are ∙ ap (λ (k : HeaderFields). header_bytes k ++ spelled k kept) own in
        let clean = subst (λ (bytes : List ℕ). IsCleanDecode (header_for o (length object)) bytes
        limit early most before after watch watch_now ended) left_is run in
        ⊎_elim
        (λ (memory : ended ≡ status.Memory). inl memory)
        (λ out. inr (⊎_elim
        (λ (w : (ended ≡ status.Done) × Appends before.output.bytes after.output.bytes object
        × LackNullWords (header_for o (length object)) o.shape.draws kept). inl (w.0, w.1))
        (λ (w : (ended ≡ status.Undetermined) × Keeps before.output.bytes after.output.bytes
        × (¬ LackNullWords (header_for o (length object)) o.shape.draws kept)). inr (w.0, w.1))
        out))
        (chosen_decoded header_one packet_one no_bad (header_for o (length object)) o.shape.draws
        limit object packets kept early most before after watch watch_now ended are_sent chosen
        (omega (arith, fewer_kept, ap length packets_are, few, enough)) clean
        law fewer same source)
