use Rattle.tool_laws.proofs.EncodedThenDecoded.{encoded_decoded}
use Rattle.tool_laws.proofs.laws.what_was_encoded_is_decoded.Goals as goal

pub returns : goal.returns
returns c o first last object file limit early most before after watch watch_now ended encodes input
    output made enough run =
    encoded_decoded c.headers_and_packets_have_one_spelling.ensures.header
    c.headers_and_packets_have_one_spelling.ensures.packet
    c.files_have_one_fault.ensures.no_bad_piece
    c.closure_is_least.ensures.holds c.null_words_follow_the_closure.ensures.closure
    c.null_words_hold_a_source_symbol.ensures
    o first last object file limit early most before after watch watch_now ended encodes input
    output made enough run
