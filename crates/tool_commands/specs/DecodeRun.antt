-- What a `decode` does.
use Rattle.std.specs.Prelude.{Bool, List, Option, [], length, slice_index_or, ℕ, ◌<◌, ◌≡◌}
use Rattle.fec_base.specs.Told.{Telling}
use Rattle.fec_session.specs.declared.outcome.Outcome.{Outcome}
use Rattle.packet_file.specs.Header.{HeaderFields, source_counts}
use Rattle.packet_file.specs.Packets.{Packet}
use Rattle.sparse_rows.specs.Matrix.{Matrix}
use Rattle.tool_base.specs.declared.status.Status.{Status}
use Rattle.tool_base.specs.Ending.{Due, EndsOrRefuses}
use Rattle.tool_commands.specs.Outcomes.{decode_report, if_done, object_of, outcome_status}
use Rattle.fec_base.specs.Outside.{Hearing, Stream}
use Rattle.tool_base.specs.Outside.{Streams}
use Rattle.fec_session.specs.Determines.{Determines}
use Rattle.object_file.specs.Received.{arrivals_of}
use Rattle.object_file.specs.Told.{IsOver, Opens, StandsAt}
use Rattle.object_file.specs.Reception.{RefusesDecode}

-- the packets of the input were taken to the last; this is how its blocks come out by them, and the
-- object and the report
pub record Decodes (draws : Option ℕ) (early : Bool) (most : ℕ) (left left_now : Option (List ℕ))
    (told told_now : Option (List Telling)) (outcomes : List Outcome) (object report : List ℕ) :
    Type 0 where
  -- the header, the matrices of its blocks, and the packets behind it
  pub header : HeaderFields
  pub code : ℕ → Matrix
  pub packets : List Packet
  -- the header was taken, and `mid` is what was left then
  pub mid : Option (List ℕ)
  pub opens : Opens draws left mid header code
  -- the packets were taken, what they make known was told, and no more was wanted
  pub stands : StandsAt header code early most mid left_now told told_now packets []
  pub over : IsOver early left_now header code packets
  -- each block comes out as what arrived for it determines
  pub counted : length outcomes ≡ length (source_counts header)
  pub determined : (b : ℕ) (o : Outcome) → b < length outcomes
      → Determines (code b) header.oti.symbol (arrivals_of b packets) (slice_index_or outcomes b o)
  -- and so do the object and the report
  pub object_is : object ≡ object_of outcomes header.oti.length
  pub report_is : report ≡ decode_report outcomes (length packets)

-- the packets of the input were taken to the last, and the blocks come out with this status
pub record Decided (draws : Option ℕ) (early : Bool) (most : ℕ) (input input_now : Stream)
    (watch watch_now : Hearing) (ended : Status) : Type 0 where
  pub outcomes : List Outcome
  pub object : List ℕ
  pub text : List ℕ
  pub decodes : Decodes draws early most input.bytes input_now.bytes watch.told watch_now.told
      outcomes object text
  pub status : outcome_status outcomes ≡ ended

-- what is due of a `decode` whose blocks come out with this status: the object, where each has its
-- source, and what is said of them
abbrev pub DecodeDue : Option ℕ → Bool → ℕ → Stream → Stream → Hearing → Hearing → Due
DecodeDue draws early most input input_now watch watch_now ended out text =
    (d : Decided draws early most input input_now watch watch_now ended)
    × (out ≡ if_done ended d.object) × (text ≡ d.text)

-- what a `decode` does
abbrev pub IsDecodeRun : Option ℕ → Bool → ℕ → Streams → Streams → Hearing → Hearing → Status
    → Type 0
IsDecodeRun draws early most before after watch watch_now ended =
    EndsOrRefuses (DecodeDue draws early most before.input after.input watch watch_now)
    (RefusesDecode draws early most before.input after.input watch watch_now) before.output
    after.output before.report after.report ended
