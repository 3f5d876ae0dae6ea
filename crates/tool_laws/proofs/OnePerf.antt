-- The lines of a `perf` are one.
use Rattle.std.proofs.Common.{◌≡◌, ℕ, List, length, get_or, sym, ap₂, ◌∙◌, subst, arith, ext_get_or}
use Rattle.std.proofs.lemmas.Option.{same_Some}
use Rattle.sparse_rows.specs.Matrix.{HasShape}
use Rattle.sparse_rows.proofs.Encode.{source_one}
use Rattle.staircase.specs.Staircase.{CountedMatrix}
use Rattle.loss_runs.specs.Ends.{AreRuns, IsRunOf}
use Rattle.loss_runs.specs.Laws.{RunHasOneResult}
use Rattle.loss_runs.specs.Lines.{trial_text}
use Rattle.loss_runs.specs.Trials.{Trial, source_of, trial_of}
use Rattle.loss_runs.specs.declared.result.RunEnd.TheVariants.{Solved}
use Rattle.loss_runs.specs.declared.result.RunLeast.TheVariants.{Unasked}
use Rattle.loss_runs.specs.declared.result.RunResult.{RunResult}
use Rattle.tool_base.specs.Options.{codec_word}
use Rattle.tool_commands.specs.PerfRun.{Tried, tried_text}
use Rattle.tool_commands.specs.declared.options.PerfOptions.{PerfOptions}

-- a result, whichever
abbrev no_result : RunResult
no_result = record { kept = 0; end = Solved; least = Unasked }

-- the same number of runs of one trial comes out in one way
runs_one : RunHasOneResult → (t : Trial) (results others : List RunResult) → HasShape t.matrix
    → AreRuns t results → AreRuns t others → length results ≡ length others → results ≡ others
runs_one result_one t results others shape first second same =
    let word : second.word ≡ first.word = source_one t.matrix shape t.len (source_of t) second.word
    first.word second.encoded first.encoded in
    ext_get_or no_result results others same
    (λ r lt. result_one t first.word r (get_or results r no_result) (get_or others r no_result)
    (first.each r no_result lt)
    (subst (λ (w : List (List ℕ)). IsRunOf t w r (get_or others r no_result)) word
    (second.each r no_result (omega (arith, lt, same)))))

-- so the options decide the text
pub text_one : RunHasOneResult → (o : PerfOptions) (t other : Tried o)
    → tried_text o t ≡ tried_text o other
text_one result_one o t other =
    let same : other.built ≡ t.built = same_Some other.built t.built (sym other.builds
    ∙ t.builds) in
    let runs : AreRuns (trial_of o.plan t.built.matrix) other.results =
    subst (λ (b : CountedMatrix). AreRuns (trial_of o.plan b.matrix) other.results) same
    other.runs in
    let results : t.results ≡ other.results = runs_one result_one (trial_of o.plan t.built.matrix)
    t.results other.results t.shape t.runs runs (t.counted ∙ sym other.counted) in
    ap₂ (λ (b : CountedMatrix) (rs : List RunResult). trial_text (codec_word o.shape.codec) b.draws
    (trial_of o.plan b.matrix) rs) (sym same) results
