-- How a run ends: what its output and its report have at each status.
use Rattle.std.specs.Io.KnownBytes.{Appends}
use Rattle.std.specs.Prelude.{List, [], length, take, ℕ, ◌++◌, ◌<◌, ◌≡◌, ◌≢◌, ◌⊎◌}
use Rattle.fec_base.specs.Bytes.{AppendsFront}
use Rattle.fec_base.specs.Causes.{Rose}
use Rattle.fec_base.specs.Outside.{Stream}
use Rattle.tool_base.specs.Refusals.{refusal_status, refusal_text}
use Rattle.tool_base.specs.declared.causes.Refusal.{Refusal}
use Rattle.tool_base.specs.Status.{fault_text}
use Rattle.tool_base.specs.declared.status.Status.{Status}
use Rattle.tool_base.specs.declared.status.Status.TheVariants as status
use Rattle.tool_base.specs.Written.{IsTold}

-- what a command says is due: at a status these bytes in the output, and this text in the report
abbrev pub Due : Type 1
Due = Status → List ℕ → List ℕ → Type 0

-- the output failed: it has one of these fronts, and the report says so
pub record OutputFails (front : List ℕ → Type 0) (output output_now report report_now : Stream) :
    Type 0 where
  pub rose : Rose output.faults output_now.faults
  pub out : List ℕ
  pub is_front : front out
  pub written : Appends output.bytes output_now.bytes out
  pub told : IsTold (fault_text status.WriteFault) report report_now

-- the report failed, behind an output that is whole: it has a front of its text
pub record ReportFails (due : Due) (output output_now report report_now : Stream) : Type 0 where
  pub rose : Rose report.faults report_now.faults
  pub out : List ℕ
  pub text : List ℕ
  pub is_due : due status.Done out text
  pub written : Appends output.bytes output_now.bytes out
  pub front : AppendsFront report.bytes report_now.bytes text

-- a run ends with what is due at its status, or is cut by a sink that fails
pub record EndsBy (due : Due) (front : List ℕ → Type 0)
    (output output_now report report_now : Stream) (ended : Status) : Type 0 where
  -- Done: the output has grown by all that is due, and so has the report
  pub done : ended ≡ status.Done → (out : List ℕ) × (text : List ℕ) × due status.Done out text
      × Appends output.bytes output_now.bytes out × Appends report.bytes report_now.bytes text
  -- WriteFault: the output failed, or else the report of a run that was to end as Done
  pub cut : ended ≡ status.WriteFault → OutputFails front output output_now report report_now
      ⊎ ReportFails due output output_now report report_now
  -- at any other status
  pub other : ended ≢ status.Done → ended ≢ status.WriteFault
      → (out : List ℕ) × (text : List ℕ) × due ended out text
      × Appends output.bytes output_now.bytes out × IsTold text report report_now

-- bytes, and as many as there are of them from the front on
abbrev pub IsPartOf : List ℕ → List ℕ → Type 0
IsPartOf whole part = (rest : List ℕ) × (whole ≡ part ++ rest)

-- a front of what is due at Done, which isn't the whole
abbrev pub FrontOf : Due → List ℕ → Type 0
FrontOf due out = (whole : List ℕ) × (text : List ℕ) × due status.Done whole text
    × (n : ℕ) × (n < length whole) × (out ≡ take n whole)

-- why a command refuses, and what it has written by then
abbrev pub Refuses : Type 1
Refuses = Refusal → List ℕ → Type 0

-- a refusal is reported that has this status
abbrev pub IsRefusal : Refuses → Due
IsRefusal refuses ended out text = (refusal : Refusal) × (ended ≡ refusal_status refusal)
    × refuses refusal out × (text ≡ refusal_text refusal)

-- this is due, or a refusal is
abbrev pub OrRefusal : Due → Refuses → Due
OrRefusal due refuses ended out text = due ended out text ⊎ IsRefusal refuses ended out text

-- it refuses so, and has written nothing
abbrev pub Unwritten : (Refusal → Type 0) → Refuses
Unwritten refuses refusal out = (out ≡ []) × refuses refusal

-- how a run ends that writes nothing before it knows all that is due: with that, or with a refusal
abbrev pub EndsOrRefuses : Due → (Refusal → Type 0) → Stream → Stream → Stream → Stream → Status
    → Type 0
EndsOrRefuses due refuses output output_now report report_now ended =
    EndsBy (OrRefusal due (Unwritten refuses)) (FrontOf due) output output_now report report_now
    ended
