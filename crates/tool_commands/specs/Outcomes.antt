-- What the outcomes of a file's blocks give: the object, the report and the status.
use Rattle.std.specs.Fmt.{decimal}
use Rattle.std.specs.List.{enumerate_from, flat_map, list_any}
use Rattle.std.specs.Prelude.{Bool, List, [], codes, false, if◌then◌else◌, take, true, ℕ, ◌++◌}
use Rattle.fec_session.specs.declared.outcome.Outcome.{Outcome}
use Rattle.tool_base.specs.Lines.{spaced}
use Rattle.tool_base.specs.declared.status.Status.{Status}
use Rattle.fec_session.specs.declared.outcome.Outcome.TheVariants as outcome
use Rattle.tool_base.specs.declared.status.Status.TheVariants as status

-- the source symbols of a block that was determined, one after the other
abbrev pub source_bytes : Outcome → List ℕ
source_bytes outcome.NoCodeword = []
source_bytes (outcome.Block block) = flat_map (λ symbol. symbol) block.source
source_bytes (outcome.Undetermined word) = []

-- the source symbols of all blocks, cut to the object's length
abbrev pub object_of : List Outcome → ℕ → List ℕ
object_of outcomes size = take size (flat_map source_bytes outcomes)

-- what is said of a block
abbrev pub outcome_words : Outcome → List ℕ
outcome_words outcome.NoCodeword = codes " contradicted\n"
outcome_words (outcome.Block block) = if block.by_peeling then codes " peeled\n" else codes
    " solved\n"
outcome_words (outcome.Undetermined word) = codes " undetermined" ++ spaced word ++ codes "\n"

-- what is reported of block b
abbrev pub block_line : ℕ → Outcome → List ℕ
block_line b o = codes "block " ++ decimal b ++ outcome_words o

-- what is reported of the blocks
abbrev pub block_lines : List Outcome → List ℕ
block_lines outcomes = flat_map (λ (p : ℕ × Outcome). block_line p.0 p.1)
    (enumerate_from 0 outcomes)

-- the report of a `decode`: a line for each block, and the number of packets
abbrev pub decode_report : List Outcome → ℕ → List ℕ
decode_report outcomes count = block_lines outcomes ++ codes "packets " ++ decimal count ++ codes
    "\n"

-- whether no codeword fits
abbrev pub is_contradicted : Outcome → Bool
is_contradicted outcome.NoCodeword = true
is_contradicted _ = false

-- whether codewords of two sources fit
abbrev pub is_undetermined : Outcome → Bool
is_undetermined (outcome.Undetermined word) = true
is_undetermined _ = false

-- the status of a `decode` whose blocks came out so: one that no codeword fits decides, and then
-- one that is undetermined
abbrev pub outcome_status : List Outcome → Status
outcome_status outcomes =
    if list_any is_contradicted outcomes then status.NoCodeword
    else if list_any is_undetermined outcomes then status.Undetermined
    else status.Done

-- the bytes at Done, and else none
abbrev pub if_done : Status → List ℕ → List ℕ
if_done status.Done bytes = bytes
if_done _ bytes = []
