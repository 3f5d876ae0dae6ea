use Rattle.tool_laws.proofs.Lossy.{loss_leaves, never_wrong}
use Rattle.tool_laws.proofs.laws.what_is_left_is_never_decoded_wrong.Goals as goal

pub returns-clause-left : goal.returns-clause-left
returns-clause-left c = loss_leaves

pub returns-clause-decoded : goal.returns-clause-decoded
returns-clause-decoded c = never_wrong c.headers_and_packets_have_one_spelling.ensures.header
    c.headers_and_packets_have_one_spelling.ensures.packet
    c.files_have_one_fault.ensures.no_bad_piece c.null_words_show_what_is_open.ensures
    c.null_words_follow_the_closure.ensures.subset c.null_words_follow_the_closure.ensures.closure
    c.null_words_hold_a_source_symbol.ensures
