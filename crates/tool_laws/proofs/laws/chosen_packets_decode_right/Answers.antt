use Rattle.tool_laws.proofs.DecodedFiles.{chosen_right, words_decide}
use Rattle.tool_laws.proofs.laws.chosen_packets_decode_right.Goals as goal

pub returns-clause-right : goal.returns-clause-right
returns-clause-right c h draws limit object sent came early most left told told_now outcomes made
    report are_sent chosen decodes =
    chosen_right c.headers_and_packets_have_one_spelling.ensures.header
    c.headers_and_packets_have_one_spelling.ensures.packet limit early most
    h draws object sent came are_sent chosen left told told_now outcomes made report decodes

pub returns-clause-exactly : goal.returns-clause-exactly
returns-clause-exactly c h draws limit object sent came early most left told told_now outcomes made
    report are_sent chosen decodes =
    words_decide c.headers_and_packets_have_one_spelling.ensures.header
    c.headers_and_packets_have_one_spelling.ensures.packet limit early most
    h draws object sent came are_sent chosen left told told_now outcomes made report decodes
    c.null_words_show_what_is_open.ensures c.null_words_follow_the_closure.ensures.subset
    c.null_words_follow_the_closure.ensures.closure c.null_words_hold_a_source_symbol.ensures
