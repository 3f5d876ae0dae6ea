-- Runs of a `perf` in which nothing fails.
use Rattle.std.proofs.Common.{◌≡◌, ◌≤◌, ⊎_elim, inl, inr, refl, sym, ◌∙◌, subst, arith, List, ℕ}
use Rattle.std.proofs.Common.{Some}
use Rattle.std.specs.Io.KnownBytes.{Appends}
use Rattle.staircase.specs.Staircase.{CountedMatrix}
use Rattle.tool_base.specs.BlockCode.{shape_matrix}
use Rattle.tool_base.specs.declared.status.Status.{Status}
use Rattle.tool_base.specs.declared.status.Status.TheVariants as status
use Rattle.tool_base.specs.Outside.{Streams}
use Rattle.tool_commands.specs.PerfRun.{IsPerfRun, PerfDue, RefusesPerf, Tried, block_bytes}
use Rattle.tool_commands.specs.PerfRun.{tried_text}
use Rattle.tool_laws.specs.RunLaws.{NothingFails, OrMemory}
use Rattle.tool_commands.specs.declared.options.PerfOptions.{PerfOptions}
use Rattle.tool_base.specs.declared.causes.Refusal.{Refusal}
use Rattle.tool_base.specs.declared.causes.Refusal.TheVariants.{Draws, File, Memory, Watch}
use Rattle.tool_laws.proofs.Uncut.{due_or_memory}

-- within the limits only memory may lack
not_refused : (o : PerfOptions) (built : CountedMatrix) → block_bytes o ≤ 268435456
    → shape_matrix o.shape o.k o.n ≡ Some built
    → (refusal : Refusal) → RefusesPerf o refusal → refusal ≡ Memory
not_refused o built small builds Memory refuses = refl
not_refused o built small builds (File fault) (is, large) = absurd (omega (arith, small, large))
not_refused o built small builds (Draws b) (zero, fits, none) = absurd (cc (sym none ∙ builds))
not_refused o built small builds Watch refuses = absurd refuses

-- what is due is the lines, or memory lacked
lines_due : (o : PerfOptions) (ended : Status) (out text : List ℕ) → PerfDue o ended out text
    → OrMemory ended ((ended ≡ status.Done) × (t : Tried o) × (out ≡ tried_text o t))
lines_due o status.Done out text (t, is, none) = inr (refl, t, is)
lines_due o status.Memory out text due = inl refl
lines_due o status.Usage out text due = absurd due
lines_due o status.ReadFault out text due = absurd due
lines_due o status.WriteFault out text due = absurd due
lines_due o status.Malformed out text due = absurd due
lines_due o status.Draws out text due = absurd due
lines_due o status.Limit out text due = absurd due
lines_due o status.Undetermined out text due = absurd due
lines_due o status.NoCodeword out text due = absurd due
lines_due o status.WatchFault out text due = absurd due

-- so where nothing fails the lines are written, or memory lacks
pub comes_through : (o : PerfOptions) (built : CountedMatrix) (before after : Streams)
    (ended : Status) → block_bytes o ≤ 268435456 → shape_matrix o.shape o.k o.n ≡ Some built
    → NothingFails before after → IsPerfRun o before after ended
    → OrMemory ended ((ended ≡ status.Done) × (t : Tried o) × Appends before.output.bytes
    after.output.bytes (tried_text o t) × (after.report ≡ before.report))
comes_through o built before after ended small builds clean run = ⊎_elim
    (λ (memory : ended ≡ status.Memory). inl memory)
    (λ stands. let (out, text, due, written, told) = stands in ⊎_elim
    (λ (memory : ended ≡ status.Memory). inl memory)
    (λ lines. let (done, t, is) = lines in inr (
      done,
      t,
      subst (Appends before.output.bytes after.output.bytes) is written,
      run.quiet done,
    ))
    (lines_due o ended out text due))
    (due_or_memory before.output after.output before.report after.report clean.writes clean.reports
    ended (PerfDue o) (RefusesPerf o) (not_refused o built small builds) run.ends)
