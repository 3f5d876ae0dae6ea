use Rattle.tool_laws.proofs.CleanPasses.{comes_through}
use Rattle.tool_laws.proofs.laws.packet_files_are_passed.Goals as goal

pub returns : goal.returns
returns c pass h packets bytes most before after ended file fit known clean run =
    comes_through c.headers_and_packets_have_one_spelling.ensures.header
    c.headers_and_packets_have_one_spelling.ensures.packet
    c.files_have_one_fault.ensures.no_bad_piece
    pass h packets bytes most before after file fit known clean ended run
