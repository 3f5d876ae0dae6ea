use Rattle.tool_laws.proofs.ComesBack.{all_peeled, peeled_give_back}
use Rattle.tool_laws.proofs.laws.all_packets_give_the_object.Goals as goal

pub returns : goal.returns
returns c h draws limit object sent came outcomes are_sent chosen all out =
    let header_one = c.headers_and_packets_have_one_spelling.ensures.header in
    let packet_one = c.headers_and_packets_have_one_spelling.ensures.packet in
    let peeled = all_peeled header_one packet_one h draws limit object sent came are_sent chosen
    outcomes out
    c.closure_is_least.ensures.holds c.null_words_follow_the_closure.ensures.closure
    c.null_words_hold_a_source_symbol.ensures all in (
      peeled,
      peeled_give_back header_one packet_one h draws limit object sent came are_sent chosen
          outcomes out peeled,
    )
