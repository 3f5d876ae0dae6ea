-- What a run over a packet file does, by how its pass ended.
use Rattle.std.proofs.Common.{◌≡◌, ◌≢◌, ◌∙◌, ℕ, inl, inr, refl, List, subst, ap, Result, OnOk, OnErr}
use Rattle.std.specs.Io.KnownBytes.{Appends}
use Rattle.fec_base.specs.Bytes.{AppendsFront}
use Rattle.fec_base.specs.Causes.{HasCause}
use Rattle.packet_file.specs.declared.fault.FileFault.{FileFault}
use Rattle.packet_pass.specs.Written.{WritesEarly, WritesWhole}
use Rattle.packet_pass.specs.declared.kind.Pass.{Pass}
use Rattle.packet_pass.specs.declared.kind.Passed.{Passed}
use Rattle.packet_pass.specs.declared.kind.PassRefusal.{PassRefusal}
use Rattle.packet_pass.specs.declared.kind.PassRefusal.TheVariants as early
use Rattle.tool_base.specs.Outside.{Streams}
use Rattle.tool_base.specs.Refusals.{refusal_status, refusal_text}
use Rattle.tool_base.specs.Status.{fault_text}
use Rattle.tool_base.specs.Written.{IsTold}
use Rattle.tool_base.specs.declared.causes.Refusal.{Refusal}
use Rattle.tool_base.specs.declared.causes.Refusal.TheVariants.{Memory, File}
use Rattle.tool_base.specs.declared.status.Status.{Status}
use Rattle.tool_base.specs.declared.status.Status.TheVariants as status
use Rattle.tool_base.proofs.Endings.{ends_cut, ends_refusing, ends_reported}
use Rattle.tool_commands.specs.PassRun.{IsPassRun, RefusesPass, pass_report}

module _ (pass : Pass) (most : ℕ) (before after : Streams) (ended : Status) where
  -- a pass to the end of the input, by how its report came out
  pub ends_whole : (passed : Passed)
      → WritesWhole pass most before.input after.input before.output after.output passed
      → {T E : Type 0} (reported : Result T E)
      → OnOk reported (Appends before.report.bytes after.report.bytes (pass_report pass passed))
      → OnErr reported
      (AppendsFront before.report.bytes after.report.bytes (pass_report pass passed))
      → HasCause before.report.faults after.report.faults reported
      → OnOk reported (ended ≡ status.Done)
      → OnErr reported (status.Done ≡ status.Done → ended ≡ status.WriteFault)
      → (status.Done ≢ status.Done → ended ≡ status.Done)
      → IsPassRun pass most before after ended
  ends_whole passed (out, written, whole) reported told cut cause is failed other =
      ends_reported _ _ _ _ _ _ ended reported status.Done out (pass_report pass passed)
      (inl (passed, whole, refl)) (λ same. cc) written told cut cause is failed other

  -- a pass that is refused, behind what it wrote
  pub pass_refused : (refusal : Refusal) → ended ≡ refusal_status refusal → (out : List ℕ)
      → RefusesPass pass most before.input after.input refusal out
      → Appends before.output.bytes after.output.bytes out
      → IsTold (refusal_text refusal) before.report after.report
      → IsPassRun pass most before after ended
  pass_refused refusal is out refuses written told =
      ends_refusing _ _ _ _ _ _ _ ended refusal is out refuses written told

  module _ (cause : PassRefusal)
      (ends : WritesEarly pass most before.input after.input before.output after.output cause) where
    -- memory lacked
    pub ends_memory : cause ≡ early.Memory → ended ≡ status.Memory
        → IsTold (refusal_text Memory) before.report after.report
        → IsPassRun pass most before after ended
    ends_memory same is told =
        let (out, written, (none, read), rose) = subst (WritesEarly pass most before.input
        after.input before.output after.output) same ends in
        pass_refused Memory is out (none, inr read) written told

    -- the input is refused
    pub ends_file : (fault known : FileFault) → fault ≡ known → cause ≡ early.File fault
        → ended ≡ refusal_status (File known)
        → IsTold (refusal_text (File known)) before.report after.report
        → IsPassRun pass most before after ended
    ends_file fault known alike same is told =
        let (out, written, refuses, rose) = subst (WritesEarly pass most before.input after.input
        before.output after.output) (same ∙ ap early.File alike) ends in
        pass_refused (File known) is out refuses written told

    -- the output failed
    pub ends_output : cause ≡ early.Output → ended ≡ status.WriteFault
        → IsTold (fault_text status.WriteFault) before.report after.report
        → IsPassRun pass most before after ended
    ends_output same is told =
        let (out, written, cut, rose) = subst (WritesEarly pass most before.input after.input
        before.output after.output) same ends in
        ends_cut _ _ _ _ _ _ ended is (inl (record {
          rose = rose refl;
          out = out;
          is_front = cut;
          written = written;
          told = told;
        }))
