-- What arrivals save of a source block.
use Rattle.std.specs.Prelude.{List, ℕ, ⊤}
use Rattle.sparse_rows.specs.Codeword.{Arrival}
use Rattle.sparse_rows.specs.Fitting.{IsFitting}
use Rattle.sparse_rows.specs.Matrix.{Matrix}
use Rattle.partial_block.specs.Saved.{HasSources, IsSavedOf}
use Rattle.partial_block.specs.declared.outcome.Survey.{Survey}
use Rattle.partial_block.specs.declared.outcome.Survey.TheVariants as answer

-- no codeword fits the arrivals; or some codeword does, and this is what they save
abbrev pub IsSurvey : Matrix → ℕ → List Arrival → Survey → Type 0
IsSurvey m len arrivals answer.NoCodeword =
    (word : List (List ℕ)) → ¬ IsFitting m len arrivals word
IsSurvey m len arrivals (answer.Sources saved) =
    ((word : List (List ℕ)) × IsFitting m len arrivals word) × IsSavedOf m len arrivals saved

-- where some codeword fits, what is saved is of k source symbols, of this length
abbrev pub Holds : ℕ → ℕ → Survey → Type 0
Holds k len answer.NoCodeword = ⊤
Holds k len (answer.Sources saved) = HasSources k len saved
