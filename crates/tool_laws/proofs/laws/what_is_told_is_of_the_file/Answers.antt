use Rattle.tool_laws.proofs.ToldSymbols.{told_sent}
use Rattle.tool_laws.proofs.laws.what_is_told_is_of_the_file.Goals as goal

pub returns : goal.returns
returns c h draws limit object sent came code t are_sent chosen codes told =
    told_sent c.headers_and_packets_have_one_spelling.ensures.header
    c.headers_and_packets_have_one_spelling.ensures.packet
    h draws limit object sent came code t are_sent chosen codes told
