-- What a run over datagrams does, by how its pass ended.
use Rattle.std.proofs.Common.{◌≡◌, ◌≢◌, ◌∙◌, ℕ, inl, refl, sym, List, subst, ap, Result, OnOk}
use Rattle.std.proofs.Common.{OnErr}
use Rattle.std.specs.Io.KnownBytes.{Appends}
use Rattle.fec_base.specs.Bytes.{AppendsFront}
use Rattle.fec_base.specs.Causes.{HasCause}
use Rattle.datagram_pass.specs.Pass.{PassEnds}
use Rattle.datagram_pass.specs.Written.{WritesEarly, WritesWhole}
use Rattle.datagram_pass.specs.declared.kind.DatagramFault.{DatagramFault}
use Rattle.datagram_pass.specs.declared.kind.DatagramFault.TheVariants.{LengthPast, Long}
use Rattle.datagram_pass.specs.declared.kind.DatagramFault.TheVariants.{PaddingSet, Short, TooMany}
use Rattle.datagram_pass.specs.declared.kind.DatagramRefusal.{DatagramRefusal}
use Rattle.datagram_pass.specs.declared.kind.DatagramRefusal.TheVariants as early
use Rattle.datagram_pass.specs.declared.kind.Way.{Way}
use Rattle.packet_file.specs.declared.fault.FileFault.TheVariants.{ReadFault}
use Rattle.tool_base.specs.Outside.{Streams}
use Rattle.tool_base.specs.Refusals.{refusal_text}
use Rattle.tool_base.specs.Status.{fault_text}
use Rattle.tool_base.specs.Written.{IsTold}
use Rattle.tool_base.specs.declared.causes.Refusal.TheVariants.{Memory, File}
use Rattle.tool_base.specs.declared.status.Status.{Status}
use Rattle.tool_base.specs.declared.status.Status.TheVariants as status
use Rattle.tool_base.proofs.Endings.{ends_cut, ends_other, ends_refusing, ends_reported}
use Rattle.tool_reach.specs.DatagramRun.{DatagramsDue, IsDatagramRun}
use Rattle.tool_reach.specs.DatagramRun.{count_text, datagram_fault_status, datagram_fault_text}

-- the status of a fault is no other
not_done : (fault : DatagramFault) → datagram_fault_status fault ≢ status.Done
not_done (Short index have) = λ same. cc same
not_done TooMany = λ same. cc same
not_done (Long index count) = λ same. cc same
not_done (LengthPast index count) = λ same. cc same
not_done (PaddingSet index) = λ same. cc same

not_cut : (fault : DatagramFault) → datagram_fault_status fault ≢ status.WriteFault
not_cut (Short index have) = λ same. cc same
not_cut TooMany = λ same. cc same
not_cut (Long index count) = λ same. cc same
not_cut (LengthPast index count) = λ same. cc same
not_cut (PaddingSet index) = λ same. cc same

module _ (way : Way) (symbol : ℕ) (before after : Streams) where
  -- what is due at a fault, at its status
  fault_due : (fault : DatagramFault) (out : List ℕ)
      → PassEnds way symbol before.input after.input (early.Fault fault) out
      → DatagramsDue way symbol before.input after.input (datagram_fault_status fault) out
      (datagram_fault_text way fault)
  fault_due (Short index have) out ends = (Short index have, refl, ends, refl)
  fault_due TooMany out ends = (TooMany, refl, ends, refl)
  fault_due (Long index count) out ends = (Long index count, refl, ends, refl)
  fault_due (LengthPast index count) out ends = (LengthPast index count, refl, ends, refl)
  fault_due (PaddingSet index) out ends = (PaddingSet index, refl, ends, refl)

  module _ (ended : Status) where
    -- a pass to the end of the input, by how its report came out
    pub ends_whole : (count : ℕ)
        → WritesWhole way symbol before.input after.input before.output after.output count
        → {T E : Type 0} (reported : Result T E)
        → OnOk reported (Appends before.report.bytes after.report.bytes (count_text count))
        → OnErr reported
        (AppendsFront before.report.bytes after.report.bytes (count_text count))
        → HasCause before.report.faults after.report.faults reported
        → OnOk reported (ended ≡ status.Done)
        → OnErr reported (status.Done ≡ status.Done → ended ≡ status.WriteFault)
        → (status.Done ≢ status.Done → ended ≡ status.Done)
        → IsDatagramRun way symbol before after ended
    ends_whole count (out, written, whole) reported told cut cause is failed other =
        ends_reported _ _ _ _ _ _ ended reported status.Done out (count_text count)
        (inl (count, whole, refl)) (λ same. cc) written told cut cause is failed other

    module _ (cause : DatagramRefusal)
        (ends : WritesEarly way symbol before.input after.input before.output after.output cause)
      where
        early_is : (known : DatagramRefusal) → cause ≡ known
            → WritesEarly way symbol before.input after.input before.output after.output known
        early_is known same = subst (WritesEarly way symbol before.input after.input before.output
            after.output) same ends

        -- memory lacked
        pub ends_memory : cause ≡ early.Memory → ended ≡ status.Memory
            → IsTold (refusal_text Memory) before.report after.report
            → IsDatagramRun way symbol before after ended
        ends_memory same is told =
            let (out, written, refuses, rose) = early_is early.Memory same in
            ends_refusing _ _ _ _ _ _ _ ended Memory is out refuses written told

        -- the input failed
        pub ends_input : cause ≡ early.Read → ended ≡ status.ReadFault
            → IsTold (refusal_text (File ReadFault)) before.report after.report
            → IsDatagramRun way symbol before after ended
        ends_input same is told =
            let (out, written, refuses, rose) = early_is early.Read same in
            ends_refusing _ _ _ _ _ _ _ ended (File ReadFault) is out refuses written told

        -- the input has a fault
        pub ends_fault : (fault known : DatagramFault) → fault ≡ known → cause ≡ early.Fault fault
            → ended ≡ datagram_fault_status known
            → IsTold (datagram_fault_text way known) before.report after.report
            → IsDatagramRun way symbol before after ended
        ends_fault fault known alike same is told =
            let (out, written, at, rose) = early_is (early.Fault known)
            (same ∙ ap early.Fault alike) in
            ends_other _ _ _ _ _ _ ended (λ done. not_done known (sym is ∙ done))
            (λ cut. not_cut known (sym is ∙ cut)) out (datagram_fault_text way known)
            (inl (subst (λ (s : Status). DatagramsDue way symbol before.input after.input s out
            (datagram_fault_text way known)) (sym is) (fault_due known out at))) written told

        -- the output failed
        pub ends_output : cause ≡ early.Output → ended ≡ status.WriteFault
            → IsTold (fault_text status.WriteFault) before.report after.report
            → IsDatagramRun way symbol before after ended
        ends_output same is told =
            let (out, written, cut, rose) = early_is early.Output same in
            ends_cut _ _ _ _ _ _ ended is (inl (record {
              rose = rose refl;
              out = out;
              is_front = cut;
              written = written;
              told = told;
            }))
