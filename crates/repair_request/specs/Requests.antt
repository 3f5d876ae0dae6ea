-- What the arrivals at a core leave to ask for.
use Rattle.std.specs.Prelude.{List, ℕ}
use Rattle.sparse_rows.specs.Codeword.{Arrival, positions}
use Rattle.sparse_rows.specs.Fitting.{IsFitting}
use Rattle.sparse_rows.specs.NullWord.{IsNullWord}
use Rattle.null_witness.specs.ReducedWords.{AreLate}
use Rattle.peeling.specs.Decoder.{Decoder}
use Rattle.peeling.specs.Stands.{StandsFor}
use Rattle.repair_request.specs.declared.outcome.Request.{Request}
use Rattle.repair_request.specs.declared.outcome.Request.TheVariants as answer

-- no codeword fits the arrivals; or some codeword does, and these are the late positions
abbrev pub IsRequest : Decoder → List Arrival → Request → Type 0
IsRequest d arrivals answer.NoCodeword =
    (word : List (List ℕ)) → ¬ IsFitting d.matrix d.len arrivals word
IsRequest d arrivals (answer.Symbols late) =
    ((word : List (List ℕ)) × IsFitting d.matrix d.len arrivals word)
    × AreLate (IsNullWord d.matrix (positions arrivals)) late

-- what the arrivals leave to ask for, whatever they are, that the decoder stands for
abbrev pub Requests : Decoder → Request → Type 0
Requests d r = (arrivals : List Arrival) → StandsFor d arrivals → IsRequest d arrivals r
