-- Inside: how runs are kept, and how far their lines have come.
use Rattle.std.specs.Prelude.{◌≡◌, ◌<◌, ◌≤◌, ℕ, ⊤, List, length, slice_index_or}
use Rattle.sparse_rows.specs.Codeword.{IsEncoded}
use Rattle.loss_patterns.specs.Ranges.{IsLoss}
use Rattle.loss_runs.specs.Trials.{Trial, source_of, start_of}
use Rattle.loss_runs.specs.Ends.{IsRunOf}
use Rattle.loss_runs.specs.Lines.{count_ends, is_peeled, is_solved, is_undetermined}
use Rattle.loss_runs.specs.Running.{Running}
use Rattle.fec_session.specs.declared.verdict.Verdict.{Verdict}
use Rattle.fec_session.specs.declared.verdict.Verdict.TheVariants as verdict
use Rattle.loss_runs.specs.declared.lines.Sums.{Sums}
use Rattle.loss_runs.specs.declared.result.RunEnd.{RunEnd}
use Rattle.loss_runs.specs.declared.result.RunEnd.TheVariants.{Solved, Undetermined}
use Rattle.loss_runs.specs.declared.result.RunResult.{RunResult}
use Rattle.loss_runs.specs.declared.runs.LossRuns.TheInside.{Inside}

-- the fields as what contracts see
abbrev pub running_of : Inside → Running
running_of s = record {
  trial = record {
    matrix = s.code;
    len = s.len;
    loss = s.loss;
    random = s.random;
    seed = s.seed;
    threshold = s.threshold;
  };
  word = s.word;
  done = s.done;
}

-- the codeword is that of the trial's source block, and the generator stands behind the runs that
-- were made
pub record IsReadyToRun (r : Running) (state : ℕ) : Type 0 where
  pub some : 1 ≤ r.trial.len
  pub most : r.trial.len ≤ 65535
  pub is_loss : IsLoss r.trial.loss
  pub encoded : IsEncoded r.trial.matrix r.trial.len (source_of r.trial) r.word
  pub behind : state ≡ start_of r.trial r.done

-- a verdict by which some codeword fits
abbrev pub HasFitting : Verdict → Type 0
HasFitting (verdict.NoCodeword core) = ⊥
HasFitting (verdict.Block block) = ⊤
HasFitting (verdict.Undetermined core word) = ⊤

-- how a run ends by such a verdict, where peeling alone didn't give the source
abbrev pub EndsBy : Verdict → RunEnd → Type 0
EndsBy (verdict.NoCodeword core) end = ⊥
EndsBy (verdict.Block block) end = end ≡ Solved
EndsBy (verdict.Undetermined core word) end = end ≡ Undetermined

-- these are the results of the first runs
abbrev pub AreFirst : Trial → List (List ℕ) → List RunResult → Type 0
AreFirst t word results = (r : ℕ) (d : RunResult) → r < length results
    → IsRunOf t word r (slice_index_or results r d)

-- how many runs ended in each way
pub record AreSums (results : List RunResult) (sums : Sums) : Type 0 where
  pub peeled : sums.peeled ≡ count_ends is_peeled results
  pub solved : sums.solved ≡ count_ends is_solved results
  pub undetermined : sums.undetermined ≡ count_ends is_undetermined results
