-- What a `perf` tried, by the text of its runs.
use Rattle.std.proofs.Common.{◌≡◌, ◌≤◌, ℕ, List, subst}
use Rattle.std.proofs.Common.{Some}
use Rattle.sparse_rows.specs.Matrix.{IsCode, Matrix}
use Rattle.loss_runs.specs.Lines.{trial_text}
use Rattle.loss_runs.specs.Trials.{trial_of}
use Rattle.loss_runs.specs.Written.{OfText}
use Rattle.tool_base.specs.Options.{codec_word}
use Rattle.tool_base.specs.BlockCode.{shape_matrix}
use Rattle.tool_commands.specs.PerfRun.{Tried, block_bytes, tried_text}
use Rattle.tool_commands.specs.declared.options.PerfOptions.{PerfOptions}

-- what is said of the text of runs of a code that was built holds of the text of what was tried
pub tried_of : (o : PerfOptions) (m : Matrix) (draws : ℕ) (name : List ℕ) (P : List ℕ → Type 0)
    → name ≡ codec_word o.shape.codec → block_bytes o ≤ 268435456
    → shape_matrix o.shape o.k o.n ≡ Some (record { matrix = m; draws = draws }) → IsCode m
    → OfText (trial_of o.plan m) o.plan.runs name draws P → (t : Tried o) × P (tried_text o t)
tried_of o m draws name P named small builds code (results, runs, counted, written) = (
  record {
    built = record { matrix = m; draws = draws };
    results = results;
    small = small;
    builds = builds;
    shape = code.shape;
    runs = runs;
    counted = counted;
  },
  subst (λ (n : List ℕ). P (trial_text n draws (trial_of o.plan m) results)) named written,
)
