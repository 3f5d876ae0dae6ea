-- What holds of runs.
use Rattle.std.specs.Prelude.{◌≡◌, ◌≤◌, ◌↔◌, ℕ, Bool, true, List}
use Rattle.sparse_rows.specs.Matrix.{HasShape}
use Rattle.sparse_rows.specs.Codeword.{IsEncoded}
use Rattle.loss_runs.specs.Trials.{Trial, source_of}
use Rattle.loss_runs.specs.Ends.{IsRunOf}
use Rattle.loss_runs.specs.declared.result.RunEnd.TheVariants.{Peeled, Undetermined}
use Rattle.loss_runs.specs.declared.result.RunLeast.TheVariants.{Never, Prefix}
use Rattle.loss_runs.specs.declared.result.RunResult.{RunResult}

-- of a code of the shape, each run has a result
abbrev pub RunHasResult : Type 0
RunHasResult = (t : Trial) (word : List (List ℕ)) (r : ℕ) → HasShape t.matrix → 1 ≤ t.len
    → IsEncoded t.matrix t.len (source_of t) word
    → (result : RunResult) × IsRunOf t word r result

-- and only one
abbrev pub RunHasOneResult : Type 0
RunHasOneResult = (t : Trial) (word : List (List ℕ)) (r : ℕ) (result other : RunResult)
    → IsRunOf t word r result → IsRunOf t word r other → result ≡ other

-- where peeling gives the source after so many arrivals, the least number of kept symbols that
-- determine the block is no greater
abbrev pub LeastWithinNeeded : Type 0
LeastWithinNeeded = (t : Trial) (word : List (List ℕ)) (r needed : ℕ) (result : RunResult)
    → HasShape t.matrix → t.threshold ≡ true → IsRunOf t word r result
    → result.end ≡ Peeled needed
    → (least : ℕ) × (result.least ≡ Prefix least) × (least ≤ needed)

-- no number of kept symbols determines the block exactly where the run ends as undetermined
abbrev pub NeverIsUndetermined : Type 0
NeverIsUndetermined = (t : Trial) (word : List (List ℕ)) (r : ℕ) (result : RunResult)
    → HasShape t.matrix → 1 ≤ t.len → IsEncoded t.matrix t.len (source_of t) word
    → t.threshold ≡ true → IsRunOf t word r result
    → (result.least ≡ Never) ↔ (result.end ≡ Undetermined)

-- whether the least number is asked for changes nothing else of a run
abbrev pub OtherColumnsStay : Type 0
OtherColumnsStay = (t : Trial) (asked : Bool) (word : List (List ℕ)) (r : ℕ)
    (result other : RunResult) → IsRunOf t word r result
    → IsRunOf (record t { threshold = asked }) word r other
    → (result.kept ≡ other.kept) × (result.end ≡ other.end)
