-- What stands in a sink of the text of a trial.
use Rattle.std.specs.Prelude.{◌≡◌, ℕ, List, length}
use Rattle.loss_runs.specs.Trials.{Trial}
use Rattle.loss_runs.specs.Ends.{AreRuns}
use Rattle.loss_runs.specs.Lines.{trial_text}
use Rattle.loss_runs.specs.declared.result.RunResult.{RunResult}

-- P holds of the text of so many runs of the trial, whose code has this name and took so many draws
abbrev pub OfText : Trial → ℕ → List ℕ → ℕ → (List ℕ → Type 0) → Type 0
OfText t runs name draws P = (results : List RunResult) × AreRuns t results
    × (length results ≡ runs) × P (trial_text name draws t results)
