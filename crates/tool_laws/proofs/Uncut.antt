-- What a run comes to where no sink fails: all that is due at its status, and a refusal only where
-- memory lacks.
use Rattle.std.proofs.Common.{◌≡◌, ◌≢◌, ◌⊎◌, ⊎_elim, inl, inr, refl, sym, ap, subst, ◌∙◌, List, []}
use Rattle.std.proofs.Common.{ℕ}
use Rattle.std.proofs.Common.{Option, Some, None, append-nil}
use Rattle.std.specs.Io.KnownBytes.{Appends, Keeps}
use Rattle.fec_base.specs.Bytes.{AppendsFront}
use Rattle.fec_base.specs.Causes.{Rose}
use Rattle.fec_base.specs.Outside.{Stream}
use Rattle.tool_base.specs.Refusals.{fault_status, refusal_status}
use Rattle.tool_base.specs.declared.causes.Refusal.{Refusal}
use Rattle.tool_base.specs.declared.causes.Refusal.TheVariants.{Draws, File, Memory, Watch}
use Rattle.packet_file.specs.declared.fault.FileFault.{FileFault}
use Rattle.packet_file.specs.declared.fault.FileFault.TheVariants.{ShortHeader, BadMagic}
use Rattle.packet_file.specs.declared.fault.FileFault.TheVariants.{BadVersion, BadCodec}
use Rattle.packet_file.specs.declared.fault.FileFault.TheVariants.{BadReserved, Field, ShortPacket}
use Rattle.packet_file.specs.declared.fault.FileFault.TheVariants.{NoSuchBlock, NoSuchSymbol}
use Rattle.packet_file.specs.declared.fault.FileFault.TheVariants.{BadLength, BadPadding}
use Rattle.packet_file.specs.declared.fault.FileFault.TheVariants.{TooLarge, TooManyBlocks}
use Rattle.packet_file.specs.declared.fault.FileFault.TheVariants.{TooManyPackets, ReadFault}
use Rattle.tool_base.specs.declared.status.Status.{Status}
use Rattle.tool_base.specs.declared.status.Status.TheVariants as status
use Rattle.tool_base.specs.Ending.{Due, EndsBy, EndsOrRefuses, FrontOf, IsRefusal, OrRefusal}
use Rattle.tool_base.specs.Ending.{OutputFails, Refuses, ReportFails, Unwritten}
use Rattle.tool_base.specs.Written.{IsTold}
use Rattle.tool_laws.specs.RunLaws.{OrMemory}

-- no refusal has the status Done
no_fault : (fault : FileFault) → status.Done ≡ fault_status fault → ⊥
no_fault (ShortHeader have) is = cc
no_fault BadMagic is = cc
no_fault (BadVersion version) is = cc
no_fault (BadCodec number) is = cc
no_fault BadReserved is = cc
no_fault (Field fault) is = cc
no_fault (ShortPacket index have) is = cc
no_fault (NoSuchBlock index sbn) is = cc
no_fault (NoSuchSymbol index esi) is = cc
no_fault (BadLength index len) is = cc
no_fault (BadPadding index) is = cc
no_fault (TooLarge limit) is = cc
no_fault TooManyBlocks is = cc
no_fault TooManyPackets is = cc
no_fault ReadFault is = cc

no_refusal : (refusal : Refusal) → status.Done ≡ refusal_status refusal → ⊥
no_refusal Memory is = cc
no_refusal (File fault) is = no_fault fault is
no_refusal (Draws b) is = cc
no_refusal Watch is = cc

-- what is due at Done is no refusal
pub done_due : (due : Due) (refuses : Refuses) (out text : List ℕ)
    → OrRefusal due refuses status.Done out text → due status.Done out text
done_due due refuses out text is_due = ⊎_elim
    (λ (d : due status.Done out text). d)
    (λ (r : IsRefusal refuses status.Done out text). let (refusal, is, cause, named) = r in
    absurd (no_refusal refusal is))
    is_due

-- a status is Done or WriteFault, or another one
by_sinks : (s : Status)
    → (s ≡ status.Done) ⊎ ((s ≡ status.WriteFault) ⊎ ((s ≢ status.Done) × (s ≢ status.WriteFault)))
by_sinks status.Done = inl refl
by_sinks status.Memory = inr (inr (λ same. cc, λ same. cc))
by_sinks status.Usage = inr (inr (λ same. cc, λ same. cc))
by_sinks status.ReadFault = inr (inr (λ same. cc, λ same. cc))
by_sinks status.WriteFault = inr (inl refl)
by_sinks status.Malformed = inr (inr (λ same. cc, λ same. cc))
by_sinks status.Draws = inr (inr (λ same. cc, λ same. cc))
by_sinks status.Limit = inr (inr (λ same. cc, λ same. cc))
by_sinks status.Undetermined = inr (inr (λ same. cc, λ same. cc))
by_sinks status.NoCodeword = inr (inr (λ same. cc, λ same. cc))
by_sinks status.WatchFault = inr (inr (λ same. cc, λ same. cc))

module _ (output output_now report report_now : Stream)
    (writes : ¬ Rose output.faults output_now.faults)
    (reports : ¬ Rose report.faults report_now.faults) (ended : Status) where
  -- a report that didn't fail has its whole text
  told_whole : (text : List ℕ) → IsTold text report report_now
      → Appends report.bytes report_now.bytes text
  told_whole text told = ⊎_elim
      (λ (whole : Appends report.bytes report_now.bytes text). whole)
      (λ (cut : Rose report.faults report_now.faults
      × AppendsFront report.bytes report_now.bytes text). absurd (reports cut.0))
      told

  abbrev pub Stands : Due → Type 0
  Stands due = (out : List ℕ) × (text : List ℕ) × due ended out text
      × Appends output.bytes output_now.bytes out × Appends report.bytes report_now.bytes text

  -- all that is due stands there
  pub all_due : (due : Due) (front : List ℕ → Type 0)
      → EndsBy due front output output_now report report_now ended → Stands due
  all_due due front e = ⊎_elim
      (λ (is : ended ≡ status.Done). let (out, text, is_due, written, told) = e.done is in
      (out, text, subst (λ s. due s out text) (sym is) is_due, written, told))
      (λ others. ⊎_elim
      (λ (cut : ended ≡ status.WriteFault). absurd (⊎_elim
      (λ (f : OutputFails front output output_now report report_now). writes f.rose)
      (λ (f : ReportFails due output output_now report report_now). reports f.rose)
      (e.cut cut)))
      (λ (apart : (ended ≢ status.Done) × (ended ≢ status.WriteFault)).
      let (out, text, is_due, written, told) = e.other apart.0 apart.1 in
      (out, text, is_due, written, told_whole text told))
      others)
      (by_sinks ended)

  -- and where only memory may refuse, that is what the command says is due
  pub all_or_memory : (due : Due) (refuses : Refuses) (front : List ℕ → Type 0)
      → ((refusal : Refusal) (out : List ℕ) → refuses refusal out → refusal ≡ Memory)
      → EndsBy (OrRefusal due refuses) front output output_now report report_now ended
      → OrMemory ended (Stands due)
  all_or_memory due refuses front only e =
      let (out, text, is_due, written, told) = all_due (OrRefusal due refuses) front e in
      ⊎_elim
      (λ (d : due ended out text). inr (out, text, d, written, told))
      (λ (r : IsRefusal refuses ended out text). let (refusal, is, cause, named) = r in
      inl (is ∙ ap refusal_status (only refusal out cause)))
      is_due

  -- the same where a refusal comes before anything is written
  pub due_or_memory : (due : Due) (refuses : Refusal → Type 0)
      → ((refusal : Refusal) → refuses refusal → refusal ≡ Memory)
      → EndsOrRefuses due refuses output output_now report report_now ended
      → OrMemory ended (Stands due)
  due_or_memory due refuses only e = all_or_memory due (Unwritten refuses) (FrontOf due)
      (λ refusal out cause. only refusal cause.1) e

-- nothing was appended to what is kept
pub kept_of_none : (old new : Option (List ℕ)) → Appends old new [] → Keeps old new
kept_of_none None new appends = tt
kept_of_none (Some bytes) None appends = absurd appends
kept_of_none (Some bytes) (Some others) appends = appends ∙ append-nil bytes
