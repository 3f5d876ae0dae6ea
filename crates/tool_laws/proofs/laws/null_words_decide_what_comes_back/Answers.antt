use Rattle.tool_laws.proofs.ComesBack.{decided_by_null_words}
use Rattle.tool_laws.proofs.laws.null_words_decide_what_comes_back.Goals as goal

pub returns : goal.returns
returns c h draws limit object sent came outcomes are_sent chosen out =
    let header_one = c.headers_and_packets_have_one_spelling.ensures.header in
    let packet_one = c.headers_and_packets_have_one_spelling.ensures.packet in
    decided_by_null_words header_one packet_one h draws limit object sent came are_sent chosen
    outcomes out c.null_words_show_what_is_open.ensures
