-- What a `salvage` does, by how its file was taken and what was written.
use Rattle.std.proofs.Common.{List, Option, inl, inr, length, refl, slice_index_or, subst, ℕ, ⊎_elim}
use Rattle.std.proofs.Common.{ap, arith, ◌<◌, ◌∙◌}
use Rattle.block_cores.specs.Taken.{RefusesFile}
use Rattle.block_cores.specs.TakenCores.{IsTakenFile}
use Rattle.block_cores.specs.declared.taking.TakenFile.{TakenFile}
use Rattle.fec_base.specs.Outside.{Stream}
use Rattle.object_file.specs.Codes.{count_at}
use Rattle.object_file.specs.Received.{arrivals_of}
use Rattle.object_file.proofs.Cores.{blank}
use Rattle.partial_block.specs.Surveys.{Holds, IsSurvey}
use Rattle.partial_block.specs.declared.outcome.Survey.{Survey}
use Rattle.peeling.specs.Decoder.{Decoder}
use Rattle.sparse_rows.specs.Matrix.{Matrix}
use Rattle.tool_base.specs.Ending.{Due, OrRefusal, Unwritten}
use Rattle.tool_base.specs.declared.causes.Refusal.{Refusal}
use Rattle.tool_base.specs.declared.status.Status.{Status}
use Rattle.tool_base.proofs.Endings.{ends_map}
use Rattle.tool_reach.specs.SalvageRun.{EndsKnowing, FrontOfAny, SalvageDue, Salvages}
use Rattle.tool_reach.specs.Salvaged.{salvage_report, salvaged_object}
use Rattle.tool_reach.specs.Surveyed.{AreSurveys, CoresDue, IsMemory}

-- what is due was more than is asked, and so were the refusals
pub knowing_more : (due due_now : Due) (refuses refuses_now : Refusal → Type 0)
    (output output_now report report_now : Stream) (ended : Status)
    → ((s : Status) (out text : List ℕ) → due s out text → due_now s out text)
    → ((refusal : Refusal) → refuses refusal → refuses_now refusal)
    → EndsKnowing due refuses output output_now report report_now ended
    → EndsKnowing due_now refuses_now output output_now report report_now ended
knowing_more due due_now refuses refuses_now output output_now report report_now ended more causes
    e =
    ends_map (OrRefusal due (Unwritten refuses)) (OrRefusal due_now (Unwritten refuses_now))
    (FrontOfAny due) (FrontOfAny due_now) output output_now report report_now ended
    (λ s out text. ⊎_elim (λ (d : due s out text). inl (more s out text d))
    (λ (refusal, is, (none, cause), named).
    inr (refusal, is, (none, causes refusal cause), named)))
    (λ out (wanted, whole, text, d, n, short, is). (
      wanted,
      whole,
      text,
      more wanted whole text d,
      n,
      short,
      is,
    ))
    e

-- a file whose packets were taken to its end
module _ (draws : Option ℕ) (most : ℕ) (input input_now : Stream) (taken : TakenFile)
    (is : IsTakenFile draws most input input_now taken) where
  module _ (surveys : List Survey) (are : AreSurveys taken.cores surveys) where
    within : (b : ℕ) → b < length surveys → b < length taken.cores
    within b lt = omega (arith, lt, are.counted)

    -- the surveys are what the packets save
    surveyed : (b : ℕ) (s : Survey) → b < length surveys
        → IsSurvey (is.code b) taken.header.oti.symbol (arrivals_of b is.packets)
        (slice_index_or surveys b s)
    surveyed b s lt =
        let d : Decoder = slice_index_or taken.cores b blank in
        let x : Survey = slice_index_or surveys b s in
        let inside = within b lt in
        let own : IsSurvey d.matrix d.len (arrivals_of b is.packets) x =
        are.surveyed b blank s inside (arrivals_of b is.packets) (is.cores.stand b blank inside) in
        subst (λ (len : ℕ). IsSurvey (is.code b) len (arrivals_of b is.packets) x)
        (is.cores.len b blank inside)
        (subst (λ (m : Matrix). IsSurvey m d.len (arrivals_of b is.packets) x)
        (is.cores.matrix b blank inside) own)

    held : (b : ℕ) (s : Survey) → b < length surveys
        → Holds (count_at taken.header b) taken.header.oti.symbol (slice_index_or surveys b s)
    held b s lt =
        let d : Decoder = slice_index_or taken.cores b blank in
        let x : Survey = slice_index_or surveys b s in
        let inside = within b lt in
        subst (λ (len : ℕ). Holds (count_at taken.header b) len x) (is.cores.len b blank inside)
        (subst (λ (k : ℕ). Holds k d.len x)
        (ap (λ (m : Matrix). m.k) (is.cores.matrix b blank inside) ∙ is.cores.sources b inside)
        (are.holds b blank s inside))

    pub salvages : Salvages draws most input input_now surveys
        (salvaged_object taken.header.oti.symbol surveys taken.header.oti.length)
        (salvage_report surveys taken.packets)
    salvages = record {
      header = taken.header;
      code = is.code;
      packets = is.packets;
      taken = is.file;
      counted = are.counted ∙ is.cores.counted;
      surveyed = surveyed;
      sized = λ b lt. is.cores.sources b (within b lt);
      held = held;
      object_is = refl;
      report_is = ap (salvage_report surveys) is.counted;
    }

  -- what is due of its decoders is due of it
  pub due_of : (s : Status) (out text : List ℕ)
      → CoresDue taken.header taken.cores taken.packets s out text
      → SalvageDue draws most input input_now s out text
  due_of s out text (surveys, are, due) = (
    record {
      surveys = surveys;
      object = salvaged_object taken.header.oti.symbol surveys taken.header.oti.length;
      text = salvage_report surveys taken.packets;
      salvages = salvages surveys are;
      status_is = due.0;
    },
    due.1,
    due.2,
  )

  -- memory may have lacked since
  pub lacks_of : (refusal : Refusal) → IsMemory refusal
      → RefusesFile draws most input input_now refusal
  lacks_of refusal memory = rw memory (inr (taken.header, is.code, is.packets, is.file))
