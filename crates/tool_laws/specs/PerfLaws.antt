-- What holds of the runs of a `perf`.
use Rattle.std.specs.Io.KnownBytes.{Appends}
use Rattle.std.specs.Prelude.{Some, ◌≡◌, ◌<◌, ◌≤◌, ◌↔◌, ℕ, Bool, true, length, slice_index_or}
use Rattle.loss_runs.specs.declared.result.RunEnd.TheVariants.{Peeled, Undetermined}
use Rattle.loss_runs.specs.declared.result.RunLeast.TheVariants.{Never, Prefix}
use Rattle.loss_runs.specs.declared.result.RunResult.{RunResult}
use Rattle.staircase.specs.Staircase.{CountedMatrix}
use Rattle.tool_base.specs.BlockCode.{shape_matrix}
use Rattle.tool_base.specs.declared.status.Status.{Status}
use Rattle.tool_base.specs.Outside.{Streams}
use Rattle.tool_commands.specs.PerfRun.{IsPerfRun, Tried, block_bytes, tried_text}
use Rattle.tool_laws.specs.RunLaws.{NothingFails, OrMemory}
use Rattle.tool_commands.specs.declared.options.PerfOptions.{PerfOptions}
use Rattle.tool_base.specs.declared.status.Status.TheVariants as status

-- the options alone decide the lines
abbrev pub PerfIsOne : Type 0
PerfIsOne = (o : PerfOptions) (t other : Tried o) → tried_text o t ≡ tried_text o other

-- a code within the limits isn't refused: the lines of its runs are written, and nothing is
-- reported
abbrev pub CodeIsTried : Type 0
CodeIsTried = (o : PerfOptions) (built : CountedMatrix) (before after : Streams) (ended : Status)
    → block_bytes o ≤ 268435456 → shape_matrix o.shape o.k o.n ≡ Some built
    → NothingFails before after → IsPerfRun o before after ended
    → OrMemory ended ((ended ≡ status.Done) × (t : Tried o)
    × Appends before.output.bytes after.output.bytes (tried_text o t)
    × (after.report ≡ before.report))

-- what came of run r, counted from 0
abbrev pub result_of_run : (o : PerfOptions) → Tried o → ℕ → RunResult → RunResult
result_of_run o t r d = slice_index_or t.results r d

-- the options, with or without the least number of packets
abbrev pub with_threshold : PerfOptions → Bool → PerfOptions
with_threshold o asked = record o { plan = record o.plan { threshold = asked } }

-- where peeling gave the source of a run, the least number of packets is no greater than the number
-- that peeling needed
abbrev pub LeastIsNeverAboveNeeded : Type 0
LeastIsNeverAboveNeeded = (o : PerfOptions) (t : Tried o) (r needed : ℕ) (d : RunResult)
    → o.plan.threshold ≡ true → r < length t.results
    → (result_of_run o t r d).end ≡ Peeled needed
    → (least : ℕ) × ((result_of_run o t r d).least ≡ Prefix least) × (least ≤ needed)

-- the least number of packets is none exactly where the run is undetermined
abbrev pub LeastIsNoneWhereUndetermined : Type 0
LeastIsNoneWhereUndetermined = (o : PerfOptions) (t : Tried o) (r : ℕ) (d : RunResult)
    → 1 ≤ o.plan.symbol → o.plan.threshold ≡ true → r < length t.results
    → ((result_of_run o t r d).least ≡ Never) ↔ ((result_of_run o t r d).end ≡ Undetermined)

-- whether the least number of packets is asked for changes no other column of a run
abbrev pub ThresholdChangesNoOtherColumn : Type 0
ThresholdChangesNoOtherColumn = (o : PerfOptions) (asked : Bool) (t : Tried o)
    (other : Tried (with_threshold o asked)) (r : ℕ) (d : RunResult) → r < length t.results
    → ((result_of_run o t r d).kept ≡ (result_of_run (with_threshold o asked) other r d).kept)
    × ((result_of_run o t r d).end ≡ (result_of_run (with_threshold o asked) other r d).end)
