use Rattle.tool_laws.proofs.ComesBack.{come_back, each_right}
use Rattle.tool_laws.proofs.laws.what_was_encoded_is_never_decoded_wrong.Goals as goal

pub returns : goal.returns
returns c h draws limit object sent came outcomes are_sent chosen out =
    let header_one = c.headers_and_packets_have_one_spelling.ensures.header in
    let packet_one = c.headers_and_packets_have_one_spelling.ensures.packet in
    let right = each_right header_one packet_one h draws limit object sent came are_sent chosen
    outcomes out in
    (right, come_back h object outcomes are_sent.encoding.header are_sent.long out.counted right)
