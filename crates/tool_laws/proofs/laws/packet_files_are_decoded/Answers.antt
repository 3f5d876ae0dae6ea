use Rattle.tool_laws.proofs.CleanDecodes.{decided}
use Rattle.tool_laws.proofs.laws.packet_files_are_decoded.Goals as goal

pub returns : goal.returns
returns c h packets bytes limit early most before after watch watch_now ended file run =
    decided c.headers_and_packets_have_one_spelling.ensures.header
    c.headers_and_packets_have_one_spelling.ensures.packet
    c.files_have_one_fault.ensures.no_bad_piece
    h packets bytes limit early most before after watch watch_now file run.bytes_are run.code
    run.codes run.clean run.heard ended run.run
