-- The lines of a trial.
use Rattle.std.specs.Prelude.{ℕ, Bool, true, false, List, [], ◌++◌, length, sum_by, count_by}
use Rattle.std.specs.Prelude.{codes, decimal}
use Rattle.std.specs.List.{enumerate_from, flat_map}
use Rattle.sparse_rows.specs.Matrix.{Matrix}
use Rattle.loss_runs.specs.Trials.{Trial}
use Rattle.loss_runs.specs.declared.result.RunEnd.{RunEnd}
use Rattle.loss_runs.specs.declared.result.RunEnd.TheVariants.{Peeled, Solved, Undetermined}
use Rattle.loss_runs.specs.declared.result.RunLeast.{RunLeast}
use Rattle.loss_runs.specs.declared.result.RunLeast.TheVariants.{Never, Prefix, Unasked}
use Rattle.loss_runs.specs.declared.result.RunResult.{RunResult}

-- the line of a code: its name, how many source symbols, encoding symbols and entries it has, and
-- how many draws its building took
abbrev pub code_line : List ℕ → Matrix → ℕ → List ℕ
code_line name m draws = codes "code " ++ name ++ codes " k " ++ decimal m.k
    ++ codes " n " ++ decimal m.n ++ codes " entries " ++ decimal (sum_by length m.rows)
    ++ codes " draws " ++ decimal draws ++ codes "\n"

-- how many arrivals peeling needed, and how the run ended
abbrev pub end_text : RunEnd → List ℕ
end_text (Peeled needed) = decimal needed ++ codes " peeled"
end_text Solved = codes "none solved"
end_text Undetermined = codes "none undetermined"

-- how many of the kept symbols determine the block, where that is asked for
abbrev pub least_text : RunLeast → List ℕ
least_text Unasked = []
least_text Never = codes " least none"
least_text (Prefix count) = codes " least " ++ decimal count

-- the line of run r, counted from 1
abbrev pub run_line : ℕ → RunResult → List ℕ
run_line r result = codes "run " ++ decimal r ++ codes " kept " ++ decimal result.kept
    ++ codes " needed " ++ end_text result.end ++ least_text result.least ++ codes "\n"

-- the lines of runs, the first of which has the number 1
abbrev pub run_lines : List RunResult → List ℕ
run_lines results =
    flat_map (λ (p : ℕ × RunResult). run_line p.0 p.1) (enumerate_from 1 results)

-- whether peeling gave the source
abbrev pub is_peeled : RunEnd → Bool
is_peeled (Peeled needed) = true
is_peeled Solved = false
is_peeled Undetermined = false

-- whether elimination gave it
abbrev pub is_solved : RunEnd → Bool
is_solved (Peeled needed) = false
is_solved Solved = true
is_solved Undetermined = false

-- whether codewords of two sources fit
abbrev pub is_undetermined : RunEnd → Bool
is_undetermined (Peeled needed) = false
is_undetermined Solved = false
is_undetermined Undetermined = true

-- how many runs ended in one way
abbrev pub count_ends : (RunEnd → Bool) → List RunResult → ℕ
count_ends test results = count_by (λ (result : RunResult). test result.end) results

-- the line with the sums: how many runs there were, and how many ended in each way
abbrev pub sum_line : List RunResult → List ℕ
sum_line results = codes "runs " ++ decimal (length results)
    ++ codes " peeled " ++ decimal (count_ends is_peeled results)
    ++ codes " solved " ++ decimal (count_ends is_solved results)
    ++ codes " undetermined " ++ decimal (count_ends is_undetermined results) ++ codes "\n"

-- the text of a trial: the line of its code, which has this name and took so many draws, a line for
-- each run, and the sums
abbrev pub trial_text : List ℕ → ℕ → Trial → List RunResult → List ℕ
trial_text name draws t results =
    code_line name t.matrix draws ++ (run_lines results ++ sum_line results)
