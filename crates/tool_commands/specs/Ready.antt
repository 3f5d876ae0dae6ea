-- Inside: what is due of what is ready to be written.
use Rattle.std.specs.Prelude.{List, length, sum_by, ℕ, ◌++◌, ◌≡◌}
use Rattle.fec_session.specs.Session.{ComeOut}
use Rattle.fec_session.specs.declared.outcome.Outcome.{Outcome}
use Rattle.object_file.specs.File.{encode_report, packets}
use Rattle.tool_base.specs.Refusals.{refusal_text}
use Rattle.tool_base.specs.declared.causes.Refusal.{Refusal}
use Rattle.tool_base.specs.declared.causes.Refusal.TheVariants.{Memory}
use Rattle.packet_file.specs.Header.{HeaderFields, header_bytes}
use Rattle.peeling.specs.Decoder.{Decoder}
use Rattle.tool_base.specs.declared.status.Status.TheVariants as status
use Rattle.tool_base.specs.Ending.{Due, IsPartOf}
use Rattle.tool_commands.specs.Outcomes.{decode_report, if_done, object_of, outcome_status}

-- what is due of a file whose blocks have these codewords: its bytes and its report; or a part of
-- them from the front on, where memory lacked
abbrev pub FileDue : HeaderFields → List (List (List ℕ)) → Due
FileDue h words status.Done out text = (out ≡ header_bytes h ++ packets h words)
    × (text ≡ encode_report (length words) (sum_by length words))
FileDue h words status.Memory out text = IsPartOf (header_bytes h ++ packets h words) out
    × (text ≡ refusal_text Memory)
FileDue h words _ out text = ⊥

-- what is due of blocks that come out so: the object, where each has its source, and the report
abbrev pub OutcomesDue : List Outcome → ℕ → ℕ → Due
OutcomesDue outcomes size count ended out text = (outcome_status outcomes ≡ ended)
    × (out ≡ if_done ended (object_of outcomes size)) × (text ≡ decode_report outcomes count)

-- what is due of decoders that received all packets
abbrev pub CoresDue : List Decoder → ℕ → ℕ → Due
CoresDue cores size count ended out text = (outcomes : List Outcome) × ComeOut cores outcomes
    × OutcomesDue outcomes size count ended out text

-- the one refusal that is left once the input was read
abbrev pub IsMemory : Refusal → Type 0
IsMemory refusal = refusal ≡ Memory
