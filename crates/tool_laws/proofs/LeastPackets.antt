-- The least number of packets of a run, beside its other columns.
use Rattle.std.proofs.Common.{◌≡◌, ℕ, List, length, get_or, sym, ap, ◌∙◌, subst, arith}
use Rattle.std.proofs.lemmas.Option.{same_Some}
use Rattle.sparse_rows.proofs.Encode.{source_one}
use Rattle.staircase.specs.Staircase.{CountedMatrix}
use Rattle.loss_runs.specs.Ends.{AreRuns, IsRunOf}
use Rattle.loss_runs.specs.Laws.{LeastWithinNeeded, NeverIsUndetermined, OtherColumnsStay}
use Rattle.loss_runs.specs.Trials.{Trial, source_of, trial_of}
use Rattle.loss_runs.specs.declared.result.RunResult.{RunResult}
use Rattle.tool_commands.specs.PerfRun.{Tried}
use Rattle.tool_laws.specs.PerfLaws.{LeastIsNeverAboveNeeded, LeastIsNoneWhereUndetermined}
use Rattle.tool_laws.specs.PerfLaws.{ThresholdChangesNoOtherColumn, with_threshold}

pub never_above : LeastWithinNeeded → LeastIsNeverAboveNeeded
never_above law o t r needed d asked lt peeled =
    law (trial_of o.plan t.built.matrix) t.runs.word r needed (get_or t.results r d) t.shape asked
    (t.runs.each r d lt) peeled

pub none_open : NeverIsUndetermined → LeastIsNoneWhereUndetermined
none_open law o t r d some asked lt =
    law (trial_of o.plan t.built.matrix) t.runs.word r (get_or t.results r d) t.shape some
    t.runs.encoded asked (t.runs.each r d lt)

pub no_other_column : OtherColumnsStay → ThresholdChangesNoOtherColumn
no_other_column law o asked t other r d lt =
    let plain : Trial = trial_of o.plan t.built.matrix in
    let p = with_threshold o asked in
    let same : other.built ≡ t.built = same_Some other.built t.built (sym other.builds
    ∙ t.builds) in
    let runs : AreRuns (trial_of p.plan t.built.matrix) other.results =
    subst (λ (b : CountedMatrix). AreRuns (trial_of p.plan b.matrix) other.results) same
    other.runs in
    let word : runs.word ≡ t.runs.word = source_one t.built.matrix t.shape plain.len
    (source_of plain) runs.word t.runs.word runs.encoded t.runs.encoded in
    law plain asked t.runs.word r (get_or t.results r d) (get_or other.results r d)
    (t.runs.each r d lt)
    (subst (λ (w : List (List ℕ)). IsRunOf (trial_of p.plan t.built.matrix) w r
    (get_or other.results r d)) word
    (runs.each r d (omega (arith, lt, t.counted, other.counted))))
