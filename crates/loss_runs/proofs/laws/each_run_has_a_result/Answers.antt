use Rattle.loss_runs.proofs.Endings.{run_has_one_result, run_has_result}
use Rattle.loss_runs.proofs.laws.each_run_has_a_result.Goals as goal

pub returns-clause-some : goal.returns-clause-some
returns-clause-some c = run_has_result c.null_words_show_what_is_open.ensures

pub returns-clause-one : goal.returns-clause-one
returns-clause-one c =
    run_has_one_result c.shorter_prefixes_have_more_null_words.ensures.shorter
    c.shorter_prefixes_have_more_null_words.ensures.one
