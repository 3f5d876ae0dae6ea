-- What a `frame` and an `unframe` come to where nothing outside fails.
use Rattle.std.proofs.Common.{◌≡◌, inl, inr, ⊎_elim, ℕ, List, [], length}
use Rattle.std.proofs.Common.{Option, Some, None, refl, sym, ap, ◌∙◌, subst}
use Rattle.std.specs.Io.KnownBytes.{Appends}
use Rattle.packet_file.specs.declared.fault.FileFault.TheVariants.{ShortHeader, BadMagic}
use Rattle.packet_file.specs.declared.fault.FileFault.TheVariants.{BadVersion, BadCodec}
use Rattle.packet_file.specs.declared.fault.FileFault.TheVariants.{BadReserved, Field, ShortPacket}
use Rattle.packet_file.specs.declared.fault.FileFault.TheVariants.{NoSuchBlock, NoSuchSymbol}
use Rattle.packet_file.specs.declared.fault.FileFault.TheVariants.{BadLength, BadPadding}
use Rattle.packet_file.specs.declared.fault.FileFault.TheVariants.{TooLarge, TooManyBlocks}
use Rattle.packet_file.specs.declared.fault.FileFault.TheVariants.{TooManyPackets, ReadFault}
use Rattle.adu_frames.specs.Frames.{Datagram}
use Rattle.datagram_pass.specs.Laws.{AreDatagrams, DatagramsArePassed, DatagramsHaveNoFault}
use Rattle.datagram_pass.specs.Laws.{UnframingUndoesFraming}
use Rattle.datagram_pass.specs.Pass.{PassEnds, PassesWhole}
use Rattle.datagram_pass.specs.Ways.{all_taken, all_written}
use Rattle.datagram_pass.specs.declared.kind.DatagramRefusal.TheVariants as early
use Rattle.datagram_pass.specs.declared.kind.Way.{Way}
use Rattle.datagram_pass.specs.declared.kind.Way.TheVariants.{Framing, Unframing}
use Rattle.tool_base.specs.Outside.{Streams}
use Rattle.tool_base.specs.declared.causes.Refusal.{Refusal}
use Rattle.tool_base.specs.declared.causes.Refusal.TheVariants.{Draws, File, Memory, Watch}
use Rattle.tool_base.specs.declared.status.Status.{Status}
use Rattle.tool_base.specs.declared.status.Status.TheVariants as status
use Rattle.tool_reach.specs.DatagramRun.{DatagramsDue, FaultDue, IsDatagramRun, RefusesDatagrams}
use Rattle.tool_reach.specs.DatagramRun.{count_text}
use Rattle.tool_laws.specs.FrameLaws.{WroteFrames}
use Rattle.tool_laws.specs.RunLaws.{NothingFails, OrMemory}
use Rattle.tool_laws.proofs.Uncut.{all_or_memory, done_due}

-- a pass to the end, and its report
abbrev WholeDue : Way → ℕ → Streams → Streams → List ℕ → List ℕ → Type 0
WholeDue way symbol before after out text = (count : ℕ)
    × PassesWhole way symbol before.input after.input count out × (text ≡ count_text count)

module _ (no_fault : DatagramsHaveNoFault) (passed : DatagramsArePassed) (way : Way) (symbol : ℕ)
    (ds : List Datagram) (before after : Streams) (are : AreDatagrams symbol ds)
    (known : before.input.bytes ≡ Some (all_taken way symbol ds))
    (clean : NothingFails before after) where
  -- only memory may lack
  not_refused : (refusal : Refusal) (out : List ℕ)
      → RefusesDatagrams way symbol before.input after.input refusal out → refusal ≡ Memory
  not_refused Memory out refuses = refl
  not_refused (File ReadFault) out (came, piece, p, cut, rose) = absurd (clean.reads rose)
  not_refused (File (ShortHeader have)) out refuses = absurd refuses
  not_refused (File BadMagic) out refuses = absurd refuses
  not_refused (File (BadVersion version)) out refuses = absurd refuses
  not_refused (File (BadCodec number)) out refuses = absurd refuses
  not_refused (File BadReserved) out refuses = absurd refuses
  not_refused (File (Field fault)) out refuses = absurd refuses
  not_refused (File (ShortPacket index have)) out refuses = absurd refuses
  not_refused (File (NoSuchBlock index sbn)) out refuses = absurd refuses
  not_refused (File (NoSuchSymbol index esi)) out refuses = absurd refuses
  not_refused (File (BadLength index len)) out refuses = absurd refuses
  not_refused (File (BadPadding index)) out refuses = absurd refuses
  not_refused (File (TooLarge limit)) out refuses = absurd refuses
  not_refused (File TooManyBlocks) out refuses = absurd refuses
  not_refused (File TooManyPackets) out refuses = absurd refuses
  not_refused (Draws b) out refuses = absurd refuses
  not_refused Watch out refuses = absurd refuses

  -- there is no fault
  no_fault_due : (ended : Status) (out text : List ℕ)
      → FaultDue way symbol before.input after.input ended out text → ⊥
  no_fault_due ended out text (fault, is, ends, named) =
      no_fault way symbol ds before.input after.input fault out are known ends

  -- so what is due is that of the whole
  done_or_not : (ended : Status) (out text : List ℕ)
      → DatagramsDue way symbol before.input after.input ended out text
      → (ended ≡ status.Done) × WholeDue way symbol before after out text
  done_or_not status.Done out text due = (refl, due)
  done_or_not status.Memory out text due = absurd due
  done_or_not status.Usage out text due = absurd due
  done_or_not status.ReadFault out text due = absurd due
  done_or_not status.WriteFault out text due = absurd due
  done_or_not status.Malformed out text due = absurd (no_fault_due status.Malformed out text due)
  done_or_not status.Draws out text due = absurd due
  done_or_not status.Limit out text due = absurd (no_fault_due status.Limit out text due)
  done_or_not status.Undetermined out text due = absurd due
  done_or_not status.NoCodeword out text due = absurd due
  done_or_not status.WatchFault out text due = absurd due

  -- what goes for the datagrams is written
  whole : (count : ℕ) (out text : List ℕ)
      → PassesWhole way symbol before.input after.input count out → text ≡ count_text count
      → Appends before.output.bytes after.output.bytes out
      → Appends before.report.bytes after.report.bytes text
      → Appends before.output.bytes after.output.bytes (all_written way symbol ds)
      × Appends before.report.bytes after.report.bytes (count_text (length ds))
  whole count out text w text_is written told =
      let (out_is, counted) = passed way symbol ds before.input after.input count out are known w
      in (
        subst (Appends before.output.bytes after.output.bytes) out_is written,
        subst (Appends before.report.bytes after.report.bytes)
            (text_is ∙ ap (λ (n : ℕ). count_text n) counted) told,
      )

  pub comes_through : (ended : Status) → IsDatagramRun way symbol before after ended
      → OrMemory ended ((ended ≡ status.Done)
      × Appends before.output.bytes after.output.bytes (all_written way symbol ds)
      × Appends before.report.bytes after.report.bytes (count_text (length ds)))
  comes_through ended run = ⊎_elim
      (λ (memory : ended ≡ status.Memory). inl memory)
      (λ stands. let (out, text, due, written, told) = stands in
      let (done, (count, w, text_is)) = done_or_not ended out text due in
      let goes = whole count out text w text_is written told in inr (done, goes.0, goes.1))
      (all_or_memory before.output after.output before.report after.report clean.writes
      clean.reports ended (DatagramsDue way symbol before.input after.input)
      (RefusesDatagrams way symbol before.input after.input)
      (PassEnds way symbol before.input after.input early.Output) not_refused run)

-- what an output holds that was empty
pub held_alone : (now : Option (List ℕ)) (bytes : List ℕ) → Appends (Some []) now bytes
    → now ≡ Some bytes
held_alone None bytes appends = absurd appends
held_alone (Some held) bytes appends = ap (λ (l : List ℕ). Some l) appends

alone : (now : Option (List ℕ)) (bytes others : List ℕ) → Appends (Some []) now bytes
    → now ≡ Some others → bytes ≡ others
alone now bytes others appends is = cc (held_alone now bytes appends, is)

-- `unframe` undoes `frame`
pub undone : DatagramsHaveNoFault → DatagramsArePassed → UnframingUndoesFraming → (symbol : ℕ)
    (datagram_stream frames : List ℕ) (before after : Streams) (ended : Status)
    → WroteFrames symbol datagram_stream frames → before.input.bytes ≡ Some frames
    → NothingFails before after → IsDatagramRun Unframing symbol before after ended
    → OrMemory ended
    ((ended ≡ status.Done) × Appends before.output.bytes after.output.bytes datagram_stream)
undone no_fault passed back symbol datagram_stream frames before after ended w known clean run =
    let (out, text, is_due, written, told) = w.run.done refl in
    let (count, whole_out, text_is) = done_due
    (DatagramsDue Framing symbol w.first.input w.last.input)
    (RefusesDatagrams Framing symbol w.first.input w.last.input) out text is_due in
    let out_is : out ≡ frames = alone w.last.output.bytes out frames
    (subst (λ (l : Option (List ℕ)). Appends l w.last.output.bytes out) w.empty written) w.wrote in
    let (ds, are, frames_are, stream_is, counted) = back symbol datagram_stream w.first.input
    w.last.input count out w.least w.most w.read whole_out in
    ⊎_elim
    (λ (lacks : ended ≡ status.Memory). inl lacks)
    (λ (through : (ended ≡ status.Done)
    × Appends before.output.bytes after.output.bytes (all_written Unframing symbol ds)
    × Appends before.report.bytes after.report.bytes (count_text (length ds))).
    inr (
      through.0,
      subst (λ (l : List ℕ). Appends before.output.bytes after.output.bytes l)
          (sym stream_is) through.1,
    ))
    (comes_through no_fault passed Unframing symbol ds before after are
    (known ∙ ap (λ (l : List ℕ). Some l) (sym out_is ∙ frames_are)) clean ended run)
