-- How a run ends, put together from what was written and told.
use Rattle.std.proofs.Common.{◌≡◌, ◌≢◌, ◌⊎◌, ⊎_elim, inl, inr, refl, sym, subst, ℕ, List, []}
use Rattle.std.proofs.Common.{Result, Ok, Err, OnOk, OnErr, ◌∙◌}
use Rattle.std.specs.Io.KnownBytes.{Appends}
use Rattle.std.proofs.KnownBytes.{Appends-nil}
use Rattle.fec_base.specs.Bytes.{AppendsFront}
use Rattle.fec_base.specs.Causes.{HasCause}
use Rattle.fec_base.specs.Outside.{Stream}
use Rattle.tool_base.specs.Refusals.{refusal_status, refusal_text}
use Rattle.tool_base.specs.declared.causes.Refusal.{Refusal}
use Rattle.tool_base.specs.declared.status.Status.{Status}
use Rattle.tool_base.specs.declared.status.Status.TheVariants as status
use Rattle.tool_base.specs.Ending.{Due, EndsBy, EndsOrRefuses, FrontOf, OrRefusal}
use Rattle.tool_base.specs.Ending.{OutputFails, Refuses, ReportFails, Unwritten}
use Rattle.tool_base.specs.Written.{IsTold}
use Rattle.tool_base.proofs.Ends.{no_other}

-- a status is Done, or another one
pub done_or_other : (s : Status) → (s ≡ status.Done) ⊎ (s ≢ status.Done)
done_or_other status.Done = inl refl
done_or_other status.Memory = inr (λ same. cc)
done_or_other status.Usage = inr (λ same. cc)
done_or_other status.ReadFault = inr (λ same. cc)
done_or_other status.WriteFault = inr (λ same. cc)
done_or_other status.Malformed = inr (λ same. cc)
done_or_other status.Draws = inr (λ same. cc)
done_or_other status.Limit = inr (λ same. cc)
done_or_other status.Undetermined = inr (λ same. cc)
done_or_other status.NoCodeword = inr (λ same. cc)
done_or_other status.WatchFault = inr (λ same. cc)

module _ (due : Due) (front : List ℕ → Type 0) (output output_now report report_now : Stream)
    (ended : Status) where
  pub ends_done : ended ≡ status.Done → (out text : List ℕ) → due status.Done out text
      → Appends output.bytes output_now.bytes out → Appends report.bytes report_now.bytes text
      → EndsBy due front output output_now report report_now ended
  ends_done is out text is_due written told = rw is (record {
    done = λ same. (out, text, is_due, written, told);
    cut = λ same. absurd (cc same);
    other = λ apart cut. absurd (apart refl);
  })

  pub ends_cut : ended ≡ status.WriteFault → OutputFails front output output_now report report_now
      ⊎ ReportFails due output output_now report report_now
      → EndsBy due front output output_now report report_now ended
  ends_cut is cut = rw is (record {
    done = λ same. absurd (cc same);
    cut = λ same. cut;
    other = λ done apart. absurd (apart refl);
  })

  pub ends_other : ended ≢ status.Done → ended ≢ status.WriteFault → (out text : List ℕ)
      → due ended out text → Appends output.bytes output_now.bytes out
      → IsTold text report report_now
      → EndsBy due front output output_now report report_now ended
  ends_other done cut out text is_due written told = record {
    done = λ same. absurd (done same);
    cut = λ same. absurd (cut same);
    other = λ apart apart_too. (out, text, is_due, written, told);
  }

  pub ends_memory : ended ≡ status.Memory → (out text : List ℕ) → due status.Memory out text
      → Appends output.bytes output_now.bytes out → IsTold text report report_now
      → EndsBy due front output output_now report report_now ended
  ends_memory is out text is_due written told = ends_other (λ done. cc (is, done))
      (λ cut. cc (is, cut)) out text (subst (λ s. due s out text) (sym is) is_due) written told

  -- the report was to be the last, and it came out so
  pub ends_reported : {T E : Type 0} (reported : Result T E) (wanted : Status) (out text : List ℕ)
      → due wanted out text → wanted ≢ status.WriteFault
      → Appends output.bytes output_now.bytes out
      → OnOk reported (Appends report.bytes report_now.bytes text)
      → OnErr reported (AppendsFront report.bytes report_now.bytes text)
      → HasCause report.faults report_now.faults reported
      → OnOk reported (ended ≡ wanted)
      → OnErr reported (wanted ≡ status.Done → ended ≡ status.WriteFault)
      → (wanted ≢ status.Done → ended ≡ wanted)
      → EndsBy due front output output_now report report_now ended
  ends_reported (Ok x) wanted out text is_due apart written whole cut cause is failed other =
      ⊎_elim
      (λ (done : wanted ≡ status.Done). ends_done (subst (λ s. ended ≡ s) done is) out text
      (subst (λ s. due s out text) done is_due) written whole)
      (λ (others : wanted ≢ status.Done). ends_other (λ e. others (sym is ∙ e))
      (λ e. apart (sym is ∙ e)) out text (subst (λ s. due s out text) (sym is) is_due) written
      (inl whole))
      (done_or_other wanted)
  ends_reported (Err e) wanted out text is_due apart written whole cut cause is failed other =
      ⊎_elim
      (λ (done : wanted ≡ status.Done). ends_cut (failed done) (inr (record {
        rose = cause.failed;
        out = out;
        text = text;
        is_due = subst (λ s. due s out text) done is_due;
        written = written;
        front = cut;
      })))
      (λ (others : wanted ≢ status.Done).
      let same : ended ≡ wanted = other others in
      ends_other (λ e. others (sym same ∙ e)) (λ e. apart (sym same ∙ e)) out text
      (subst (λ s. due s out text) (sym same) is_due) written (inr (cause.failed, cut)))
      (done_or_other wanted)

-- what was due was more than is asked
pub ends_map : (due due_now : Due) (front front_now : List ℕ → Type 0)
    (output output_now report report_now : Stream) (ended : Status)
    → ((s : Status) (out text : List ℕ) → due s out text → due_now s out text)
    → ((out : List ℕ) → front out → front_now out)
    → EndsBy due front output output_now report report_now ended
    → EndsBy due_now front_now output output_now report report_now ended
ends_map due due_now front front_now output output_now report report_now ended more more_front e =
    record {
      done = λ is. let (out, text, is_due, written, told) = e.done is in
          (out, text, more status.Done out text is_due, written, told);
      cut = λ is. ⊎_elim
          (λ (f : OutputFails front output output_now report report_now). inl (record {
            rose = f.rose;
            out = f.out;
            is_front = more_front f.out f.is_front;
            written = f.written;
            told = f.told;
          }))
          (λ (f : ReportFails due output output_now report report_now). inr (record {
            rose = f.rose;
            out = f.out;
            text = f.text;
            is_due = more status.Done f.out f.text f.is_due;
            written = f.written;
            front = f.front;
          }))
          (e.cut is);
      other = λ done cut. let (out, text, is_due, written, told) = e.other done cut in
          (out, text, more ended out text is_due, written, told);
    }

-- the same, where refusals stay apart
pub ends_more : (due due_now : Due) (refuses refuses_now : Refusal → Type 0)
    (output output_now report report_now : Stream) (ended : Status)
    → ((s : Status) (out text : List ℕ) → due s out text → due_now s out text)
    → ((refusal : Refusal) → refuses refusal → refuses_now refusal)
    → EndsOrRefuses due refuses output output_now report report_now ended
    → EndsOrRefuses due_now refuses_now output output_now report report_now ended
ends_more due due_now refuses refuses_now output output_now report report_now ended more causes e =
    ends_map (OrRefusal due (Unwritten refuses)) (OrRefusal due_now (Unwritten refuses_now))
    (FrontOf due) (FrontOf due_now) output output_now report report_now ended
    (λ s out text. ⊎_elim (λ (d : due s out text). inl (more s out text d))
    (λ (refusal, is, (none, cause), named).
    inr (refusal, is, (none, causes refusal cause), named)))
    (λ out (whole, text, d, n, short, is). (
      whole,
      text,
      more status.Done whole text d,
      n,
      short,
      is,
    ))
    e

-- a refusal was told, behind what was written
pub ends_refusing : (due : Due) (refuses : Refuses) (front : List ℕ → Type 0)
    (output output_now report report_now : Stream) (ended : Status) (refusal : Refusal)
    → ended ≡ refusal_status refusal → (out : List ℕ) → refuses refusal out
    → Appends output.bytes output_now.bytes out → IsTold (refusal_text refusal) report report_now
    → EndsBy (OrRefusal due refuses) front output output_now report report_now ended
ends_refusing due refuses front output output_now report report_now ended refusal is out cause
    written told =
    ends_other (OrRefusal due refuses) front output output_now report report_now ended
    (λ done. no_other refusal ended status.Done is done)
    (λ cut. no_other refusal ended status.WriteFault is cut) out (refusal_text refusal)
    (inr (refusal, is, cause, refl)) written told

module _ (due : Due) (refuses : Refusal → Type 0) (output report report_now : Stream)
    (ended : Status) where
  -- nothing was written, and a refusal was told
  pub ends_refused : (refusal : Refusal) → ended ≡ refusal_status refusal → refuses refusal
      → IsTold (refusal_text refusal) report report_now
      → EndsOrRefuses due refuses output output report report_now ended
  ends_refused refusal is cause told =
      ends_refusing due (Unwritten refuses) (FrontOf due) output output report report_now ended
      refusal is [] (refl, cause) (Appends-nil output.bytes) told
