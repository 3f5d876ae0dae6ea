-- How a run ends.
use Rattle.std.specs.Prelude.{◌≡◌, ◌<◌, ◌≤◌, ℕ, Bool, List, length, take, slice_index_or}
use Rattle.std.specs.Prelude.{true, false}
use Rattle.fec_threshold.specs.LeastPrefix.{HasNullWord, IsLeastPrefix}
use Rattle.sparse_rows.specs.Matrix.{Matrix, is_in}
use Rattle.sparse_rows.specs.Codeword.{Arrival, IsEncoded}
use Rattle.sparse_rows.specs.Fitting.{IsUndetermined}
use Rattle.sparse_rows.specs.Determined.{HoldsSource, IsSource}
use Rattle.loss_runs.specs.Trials.{Trial, arrivals_of, kept_by, source_of}
use Rattle.loss_runs.specs.declared.result.RunEnd.{RunEnd}
use Rattle.loss_runs.specs.declared.result.RunEnd.TheVariants.{Peeled, Solved, Undetermined}
use Rattle.loss_runs.specs.declared.result.RunLeast.{RunLeast}
use Rattle.loss_runs.specs.declared.result.RunLeast.TheVariants.{Never, Prefix, Unasked}
use Rattle.loss_runs.specs.declared.result.RunResult.{RunResult}

-- p is the least number of arrivals after which the closure holds the whole source
pub record IsNeeded (m : Matrix) (arrivals : List Arrival) (p : ℕ) : Type 0 where
  pub within : p ≤ length arrivals
  pub holds : HoldsSource m (take p arrivals)
  pub least : (q : ℕ) → q < p → ¬ HoldsSource m (take q arrivals)

-- after no number of arrivals it does
abbrev pub NeverHolds : Matrix → List Arrival → Type 0
NeverHolds m arrivals = (q : ℕ) → q ≤ length arrivals → ¬ HoldsSource m (take q arrivals)

-- peeling gives the source after so many arrivals and no fewer; or it never does, and all codewords
-- that fit have this source; or it never does, and codewords of two sources fit
abbrev pub IsEnd : Matrix → ℕ → List (List ℕ) → List Arrival → RunEnd → Type 0
IsEnd m len source arrivals (Peeled needed) = IsNeeded m arrivals needed
IsEnd m len source arrivals Solved = NeverHolds m arrivals × IsSource m len arrivals source
IsEnd m len source arrivals Undetermined = NeverHolds m arrivals × IsUndetermined m len arrivals

-- of these positions the least number, from the first on, that has no null word, where that is
-- asked for; or all of them have one
abbrev pub IsThreshold : Matrix → Bool → List ℕ → RunLeast → Type 0
IsThreshold m asked positions Unasked = asked ≡ false
IsThreshold m asked positions Never = (asked ≡ true) × HasNullWord m (is_in positions)
IsThreshold m asked positions (Prefix count) = (asked ≡ true) × IsLeastPrefix m positions count

-- what comes of run r, counted from 0: how many symbols are kept, how it ends, and how many of the
-- kept ones determine the block
pub record IsRunOf (t : Trial) (word : List (List ℕ)) (r : ℕ) (result : RunResult) : Type 0 where
  pub kept : result.kept ≡ length (kept_by t r)
  pub ends : IsEnd t.matrix t.len (source_of t) (arrivals_of t.len word (kept_by t r)) result.end
  pub least : IsThreshold t.matrix t.threshold (kept_by t r) result.least

-- what comes of so many runs, one after the other, of the codeword of the source block
pub record AreRuns (t : Trial) (results : List RunResult) : Type 0 where
  pub word : List (List ℕ)
  pub encoded : IsEncoded t.matrix t.len (source_of t) word
  pub each : (r : ℕ) (d : RunResult) → r < length results
      → IsRunOf t word r (slice_index_or results r d)
