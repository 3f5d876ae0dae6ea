-- What is salvaged of a file's blocks: the object, with what the packets determine of it, the
-- report and the status.
use Rattle.std.specs.Fmt.{decimal}
use Rattle.std.specs.List.{enumerate_from, flat_map, list_any, range_with_len}
use Rattle.std.specs.Prelude.{Bool, List, [], codes, count_by, false, if◌then◌else◌, length, not}
use Rattle.std.specs.Prelude.{take, true, ℕ, ◌++◌, ◌==◌, ◌∷◌}
use Rattle.fec_base.specs.Symbol.{zero_symbol}
use Rattle.partial_block.specs.Saved.{Saved, saved_at, through_at}
use Rattle.partial_block.specs.declared.outcome.Survey.{Survey}
use Rattle.tool_base.specs.Lines.{spaced}
use Rattle.tool_base.specs.Refusals.{numbered}
use Rattle.tool_base.specs.declared.status.Status.{Status}
use Rattle.partial_block.specs.declared.outcome.Survey.TheVariants as survey
use Rattle.tool_base.specs.declared.status.Status.TheVariants as status

-- how many source symbols the block has
abbrev pub count_of : Saved → ℕ
count_of saved = length saved.throughs

-- the numbers of its source symbols
abbrev pub sources_of : Saved → List ℕ
sources_of saved = range_with_len 0 (count_of saved)

-- whether a word has no position
abbrev pub is_no_word : List ℕ → Bool
is_no_word [] = true
is_no_word (position ∷ word) = false

-- whether source symbol e is determined: no null word goes through it
abbrev pub is_determined : Saved → ℕ → Bool
is_determined saved e = is_no_word (through_at saved e)

-- how many source symbols are determined
abbrev pub determined_count : Saved → ℕ
determined_count saved = count_by (is_determined saved) (sources_of saved)

-- whether all are
abbrev pub is_whole : Saved → Bool
is_whole saved = determined_count saved == count_of saved

-- source symbol e where it is determined, and else zero bytes in its place
abbrev pub salvaged_symbol : ℕ → Saved → ℕ → List ℕ
salvaged_symbol len saved e =
    if is_determined saved e then saved_at saved e else zero_symbol len

-- the source symbols of a block, one after the other
abbrev pub salvaged_bytes : ℕ → Survey → List ℕ
salvaged_bytes len survey.NoCodeword = []
salvaged_bytes len (survey.Sources saved) = flat_map (salvaged_symbol len saved) (sources_of saved)

-- those of all blocks, cut to the object's length
abbrev pub salvaged_object : ℕ → List Survey → ℕ → List ℕ
salvaged_object len surveys size = take size (flat_map (salvaged_bytes len) surveys)

-- what names the null word through source symbol e
abbrev pub through_line : ℕ → List ℕ → List ℕ
through_line e word =
    codes "symbol " ++ decimal e ++ codes " through" ++ spaced word ++ codes "\n"

-- what is reported of source symbol e: nothing where it is determined
abbrev pub open_line : Saved → ℕ → List ℕ
open_line saved e = if is_determined saved e then [] else through_line e (through_at saved e)

-- and of all of them
abbrev pub open_lines : Saved → List ℕ
open_lines saved = flat_map (open_line saved) (sources_of saved)

-- how many source symbols are determined, of how many
abbrev pub count_line : Saved → List ℕ
count_line saved = codes " partial " ++ decimal (determined_count saved)
    ++ numbered (codes " of ") (count_of saved)

-- what is said of a block
abbrev pub survey_words : Survey → List ℕ
survey_words survey.NoCodeword = codes " contradicted\n"
survey_words (survey.Sources saved) = if is_whole saved then codes " whole\n"
    else count_line saved ++ open_lines saved

-- what is reported of block b
abbrev pub survey_line : ℕ → Survey → List ℕ
survey_line b s = codes "block " ++ decimal b ++ survey_words s

-- what is reported of the blocks
abbrev pub survey_lines : List Survey → List ℕ
survey_lines surveys = flat_map (λ (p : ℕ × Survey). survey_line p.0 p.1)
    (enumerate_from 0 surveys)

-- the report of a `salvage`: the lines of each block, and the number of packets
abbrev pub salvage_report : List Survey → ℕ → List ℕ
salvage_report surveys count = survey_lines surveys ++ numbered (codes "packets ") count

-- whether no codeword fits
abbrev pub is_contradicted : Survey → Bool
is_contradicted survey.NoCodeword = true
is_contradicted (survey.Sources saved) = false

-- whether some codeword fits, and some source symbol isn't determined
abbrev pub is_partial : Survey → Bool
is_partial survey.NoCodeword = false
is_partial (survey.Sources saved) = not (is_whole saved)

-- the status of a `salvage`: a block that no codeword fits decides, and then one with a source
-- symbol that isn't determined
abbrev pub salvage_status : List Survey → Status
salvage_status surveys =
    if list_any is_contradicted surveys then status.NoCodeword
    else if list_any is_partial surveys then status.Undetermined
    else status.Done

-- the bytes, and none where no codeword fits some block
abbrev pub if_fitting : Status → List ℕ → List ℕ
if_fitting status.NoCodeword bytes = []
if_fitting _ bytes = bytes
