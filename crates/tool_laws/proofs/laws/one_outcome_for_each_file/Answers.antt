use Rattle.tool_laws.proofs.OneDecoding.{decoding_one}
use Rattle.tool_laws.proofs.laws.one_outcome_for_each_file.Goals as goal

pub returns : goal.returns
returns c draws limit early most highest bytes told left other_left told_now other_told outcomes
    others object other report other_report first second =
    decoding_one c.headers_and_packets_have_one_spelling.ensures.header
    c.headers_and_packets_have_one_spelling.ensures.packet
    draws limit early most highest bytes told left other_left told_now other_told outcomes others
    object other report other_report first second
