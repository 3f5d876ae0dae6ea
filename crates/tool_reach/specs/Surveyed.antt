-- Inside: the surveys of decoders, and what is due of them.
use Rattle.std.specs.Prelude.{List, length, slice_index_or, ℕ, ⊤, ◌<◌, ◌≡◌}
use Rattle.packet_file.specs.Header.{HeaderFields}
use Rattle.partial_block.specs.Saved.{HasSources}
use Rattle.partial_block.specs.Surveys.{Holds}
use Rattle.partial_block.specs.DecoderSurveys.{Surveys}
use Rattle.partial_block.specs.declared.outcome.Survey.{Survey}
use Rattle.peeling.specs.Decoder.{Decoder}
use Rattle.tool_base.specs.Ending.{Due}
use Rattle.tool_base.specs.declared.causes.Refusal.{Refusal}
use Rattle.tool_base.specs.declared.causes.Refusal.TheVariants.{Memory}
use Rattle.tool_reach.specs.Salvaged.{count_of, if_fitting, salvage_report, salvage_status}
use Rattle.tool_reach.specs.Salvaged.{salvaged_object}
use Rattle.partial_block.specs.declared.outcome.Survey.TheVariants as survey

-- the surveys of these decoders, one after the other
pub record AreSurveys (decoders : List Decoder) (surveys : List Survey) : Type 0 where
  pub counted : length surveys ≡ length decoders
  pub surveyed : (b : ℕ) (d : Decoder) (s : Survey) → b < length decoders
      → Surveys (slice_index_or decoders b d) (slice_index_or surveys b s)
  pub holds : (b : ℕ) (d : Decoder) (s : Survey) → b < length decoders
      → Holds (slice_index_or decoders b d).matrix.k (slice_index_or decoders b d).len
      (slice_index_or surveys b s)

-- where some codeword fits, the source symbols that are determined have this length
abbrev pub HasLength : ℕ → Survey → Type 0
HasLength len survey.NoCodeword = ⊤
HasLength len (survey.Sources saved) = HasSources (count_of saved) len saved

-- what is due of blocks of which this is saved
abbrev pub SurveysDue : HeaderFields → List Survey → ℕ → Due
SurveysDue h surveys count ended out text = (salvage_status surveys ≡ ended)
    × (out ≡ if_fitting ended (salvaged_object h.oti.symbol surveys h.oti.length))
    × (text ≡ salvage_report surveys count)

-- what is due of decoders that took in all packets
abbrev pub CoresDue : HeaderFields → List Decoder → ℕ → Due
CoresDue h cores count ended out text = (surveys : List Survey) × AreSurveys cores surveys
    × SurveysDue h surveys count ended out text

-- the one refusal that is left once the input was read
abbrev pub IsMemory : Refusal → Type 0
IsMemory refusal = refusal ≡ Memory
