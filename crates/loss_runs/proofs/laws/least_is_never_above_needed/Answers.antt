use Rattle.loss_runs.proofs.Compared.{least_within_needed, never_is_undetermined}
use Rattle.loss_runs.proofs.laws.least_is_never_above_needed.Goals as goal

pub returns-clause-within : goal.returns-clause-within
returns-clause-within c = least_within_needed c.null_words_follow_the_closure.ensures.subset
    c.null_words_follow_the_closure.ensures.closure c.null_words_hold_a_source_symbol.ensures
    c.shorter_prefixes_have_more_null_words.ensures.shorter

pub returns-clause-never : goal.returns-clause-never
returns-clause-never c = never_is_undetermined c.null_words_follow_the_closure.ensures.subset
    c.null_words_follow_the_closure.ensures.closure c.null_words_hold_a_source_symbol.ensures
    c.shorter_prefixes_have_more_null_words.ensures.shorter c.null_words_show_what_is_open.ensures
