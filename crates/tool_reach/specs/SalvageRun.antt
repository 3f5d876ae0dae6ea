-- What a `salvage` does.
use Rattle.std.specs.Prelude.{List, Option, length, slice_index_or, take, ℕ, ◌<◌, ◌≡◌}
use Rattle.block_cores.specs.Taken.{IsTaken, RefusesFile}
use Rattle.fec_base.specs.Outside.{Stream}
use Rattle.object_file.specs.Codes.{count_at}
use Rattle.object_file.specs.Received.{arrivals_of}
use Rattle.packet_file.specs.Header.{HeaderFields, source_counts}
use Rattle.packet_file.specs.Packets.{Packet}
use Rattle.partial_block.specs.Surveys.{Holds, IsSurvey}
use Rattle.partial_block.specs.declared.outcome.Survey.{Survey}
use Rattle.sparse_rows.specs.Matrix.{Matrix}
use Rattle.tool_base.specs.Ending.{Due, EndsBy, OrRefusal, Unwritten}
use Rattle.tool_base.specs.Outside.{Streams}
use Rattle.tool_base.specs.declared.causes.Refusal.{Refusal}
use Rattle.tool_base.specs.declared.status.Status.{Status}
use Rattle.tool_reach.specs.Salvaged.{if_fitting, salvage_report, salvage_status, salvaged_object}

-- the packets of the input were taken to its end; this is what they save of its blocks, and the
-- object and the report
pub record Salvages (draws : Option ℕ) (most : ℕ) (input input_now : Stream)
    (surveys : List Survey) (object report : List ℕ) : Type 0 where
  -- the header, the matrices of its blocks, and the packets behind it
  pub header : HeaderFields
  pub code : ℕ → Matrix
  pub packets : List Packet
  pub taken : IsTaken draws most input input_now header code packets
  -- this is what arrived for each block saves of it, in source symbols of the file's length
  pub counted : length surveys ≡ length (source_counts header)
  pub surveyed : (b : ℕ) (s : Survey) → b < length surveys
      → IsSurvey (code b) header.oti.symbol (arrivals_of b packets) (slice_index_or surveys b s)
  pub sized : (b : ℕ) → b < length surveys → (code b).k ≡ count_at header b
  pub held : (b : ℕ) (s : Survey) → b < length surveys
      → Holds (count_at header b) header.oti.symbol (slice_index_or surveys b s)
  -- and so are the object and the report
  pub object_is : object ≡ salvaged_object header.oti.symbol surveys header.oti.length
  pub report_is : report ≡ salvage_report surveys (length packets)

-- the packets of the input were taken to its end, and what they save has this status
pub record Salvaged (draws : Option ℕ) (most : ℕ) (input input_now : Stream) (ended : Status) :
    Type 0 where
  pub surveys : List Survey
  pub object : List ℕ
  pub text : List ℕ
  pub salvages : Salvages draws most input input_now surveys object text
  pub status_is : salvage_status surveys ≡ ended

-- what is due of a `salvage` whose blocks come out with this status: what is saved of the object,
-- unless no codeword fits some block, and what is said of the blocks
abbrev pub SalvageDue : Option ℕ → ℕ → Stream → Stream → Due
SalvageDue draws most input input_now ended out text =
    (s : Salvaged draws most input input_now ended)
    × (out ≡ if_fitting ended s.object) × (text ≡ s.text)

-- a front of what is due at some status, which isn't the whole
abbrev pub FrontOfAny : Due → List ℕ → Type 0
FrontOfAny due out = (wanted : Status) × (whole : List ℕ) × (text : List ℕ)
    × due wanted whole text × (n : ℕ) × (n < length whole) × (out ≡ take n whole)

-- how a run ends that may write at more than one status, but nothing before it knows all that is
-- due: with that, or with a refusal
abbrev pub EndsKnowing : Due → (Refusal → Type 0) → Stream → Stream → Stream → Stream → Status
    → Type 0
EndsKnowing due refuses output output_now report report_now ended =
    EndsBy (OrRefusal due (Unwritten refuses)) (FrontOfAny due) output output_now report report_now
    ended

-- what a `salvage` does
abbrev pub IsSalvageRun : Option ℕ → ℕ → Streams → Streams → Status → Type 0
IsSalvageRun draws most before after ended =
    EndsKnowing (SalvageDue draws most before.input after.input)
    (RefusesFile draws most before.input after.input) before.output after.output before.report
    after.report ended
