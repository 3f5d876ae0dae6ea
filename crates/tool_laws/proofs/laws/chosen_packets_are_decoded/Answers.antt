use Rattle.tool_laws.proofs.CleanDecodes.{chosen_decoded}
use Rattle.tool_laws.proofs.laws.chosen_packets_are_decoded.Goals as goal

pub returns : goal.returns
returns c h draws limit object sent came early most before after watch watch_now ended are_sent
    chosen few run =
    chosen_decoded c.headers_and_packets_have_one_spelling.ensures.header
    c.headers_and_packets_have_one_spelling.ensures.packet
    c.files_have_one_fault.ensures.no_bad_piece
    h draws limit object sent came early most before after watch watch_now ended are_sent chosen few
    run
    c.null_words_show_what_is_open.ensures c.null_words_follow_the_closure.ensures.subset
    c.null_words_follow_the_closure.ensures.closure c.null_words_hold_a_source_symbol.ensures
