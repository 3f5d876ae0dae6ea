-- What a `perf` does: the code that its words describe is built, and runs of a decoder over the
-- symbols of one block are written, line by line.
use Rattle.std.specs.Prelude.{List, None, Some, [], length, ℕ, ⊤, ◌*◌, ◌<◌, ◌≡◌, ◌≤◌}
use Rattle.loss_runs.specs.Lines.{trial_text}
use Rattle.loss_runs.specs.Ends.{AreRuns}
use Rattle.loss_runs.specs.Trials.{trial_of}
use Rattle.loss_runs.specs.declared.result.RunResult.{RunResult}
use Rattle.packet_file.specs.declared.fault.FileFault.TheVariants.{TooLarge}
use Rattle.packet_file.specs.declared.fault.Limit.TheVariants.{BlockBytes}
use Rattle.sparse_rows.specs.Matrix.{HasShape}
use Rattle.staircase.specs.Staircase.{CountedMatrix}
use Rattle.tool_base.specs.BlockCode.{shape_matrix}
use Rattle.tool_base.specs.Options.{codec_word}
use Rattle.tool_base.specs.declared.status.Status.{Status}
use Rattle.tool_base.specs.Outside.{Streams}
use Rattle.tool_base.specs.Refusals.{refusal_text}
use Rattle.tool_base.specs.Ending.{Due, EndsOrRefuses, IsPartOf}
use Rattle.tool_commands.specs.declared.options.PerfOptions.{PerfOptions}
use Rattle.tool_base.specs.declared.causes.Refusal.{Refusal}
use Rattle.tool_base.specs.declared.causes.Refusal.TheVariants.{Draws, File, Memory, Watch}
use Rattle.tool_base.specs.declared.status.Status.TheVariants as status

-- how many bytes the symbols of the block take
abbrev pub block_bytes : PerfOptions → ℕ
block_bytes o = o.n * o.plan.symbol

-- the runs over the code of the options, whose block is within the limit: the matrix, which has the
-- shape, with the draws that it took, and what came of each run
pub record Tried (o : PerfOptions) : Type 0 where
  pub built : CountedMatrix
  pub results : List RunResult
  pub small : block_bytes o ≤ 268435456
  pub builds : shape_matrix o.shape o.k o.n ≡ Some built
  pub shape : HasShape built.matrix
  pub runs : AreRuns (trial_of o.plan built.matrix) results
  pub counted : length results ≡ o.plan.runs

-- the lines of these runs
abbrev pub tried_text : (o : PerfOptions) → Tried o → List ℕ
tried_text o t = trial_text (codec_word o.shape.codec) t.built.draws
    (trial_of o.plan t.built.matrix) t.results

-- a `perf` is refused: its block is too large, or else its matrix takes more draws than it may
abbrev pub RefusesPerf : PerfOptions → Refusal → Type 0
RefusesPerf o Memory = ⊤
RefusesPerf o (File fault) = (fault ≡ TooLarge BlockBytes) × (268435456 < block_bytes o)
RefusesPerf o (Draws b) =
    (b ≡ 0) × (block_bytes o ≤ 268435456) × (shape_matrix o.shape o.k o.n ≡ None)
RefusesPerf o Watch = ⊥

-- what is due of a `perf`: the lines, and no report; where memory lacked within the runs, a part of
-- the lines from their front on
abbrev pub PerfDue : PerfOptions → Due
PerfDue o status.Done out text = (t : Tried o) × (out ≡ tried_text o t) × (text ≡ [])
PerfDue o status.Memory out text = (t : Tried o) × IsPartOf (tried_text o t) out
    × (text ≡ refusal_text Memory)
PerfDue o _ out text = ⊥

-- what a `perf` does: nothing is read
pub record IsPerfRun (o : PerfOptions) (before after : Streams) (ended : Status) : Type 0 where
  pub input : after.input ≡ before.input
  pub ends : EndsOrRefuses (PerfDue o) (RefusesPerf o) before.output after.output before.report
      after.report ended
  -- Done: the report isn't touched
  pub quiet : ended ≡ status.Done → after.report ≡ before.report
