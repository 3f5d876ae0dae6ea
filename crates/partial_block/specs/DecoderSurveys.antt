-- Beside the promises of a run: what a decoder's arrivals save.
use Rattle.std.specs.Prelude.{List}
use Rattle.sparse_rows.specs.Codeword.{Arrival}
use Rattle.peeling.specs.Decoder.{Decoder}
use Rattle.peeling.specs.Stands.{StandsFor}
use Rattle.partial_block.specs.Surveys.{IsSurvey}
use Rattle.partial_block.specs.declared.outcome.Survey.{Survey}

-- what the arrivals save, whatever they are, that the decoder stands for
abbrev pub Surveys : Decoder → Survey → Type 0
Surveys d s = (arrivals : List Arrival) → StandsFor d arrivals
    → IsSurvey d.matrix d.len arrivals s
