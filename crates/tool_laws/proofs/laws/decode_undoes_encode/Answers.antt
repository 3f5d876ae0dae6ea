use Rattle.std.proofs.Common.{ℕ, List, Some, subst}
use Rattle.std.proofs.lemmas.List.Elements.{All-contains_itself}
use Rattle.packet_file.specs.Packets.{Packet}
use Rattle.tool_commands.specs.DecodeRun.{Decodes}
use Rattle.tool_laws.proofs.DecodedFiles.{all_decode, file_sent}
use Rattle.tool_laws.proofs.SentPackets.{packet_list}
use Rattle.tool_laws.proofs.laws.decode_undoes_encode.Goals as goal

pub returns : goal.returns
returns c h draws limit object file text early most left told told_now outcomes made report long
    encoding decodes =
    let header_one = c.headers_and_packets_have_one_spelling.ensures.header in
    let packet_one = c.headers_and_packets_have_one_spelling.ensures.packet in
    let sent : List Packet = packet_list 0 encoding.words in
    let are_sent = file_sent header_one packet_one h draws object file text long encoding in
    all_decode header_one packet_one limit early most h draws object sent sent are_sent.0
    (All-contains_itself sent) left told told_now outcomes made report
    (subst (λ (bytes : List ℕ). Decodes limit early most (Some bytes) left told told_now outcomes
    made report) are_sent.1 decodes)
    (All-contains_itself sent) c.closure_is_least.ensures.holds
    c.null_words_follow_the_closure.ensures.closure c.null_words_hold_a_source_symbol.ensures
