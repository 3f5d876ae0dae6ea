use Rattle.packet_file.proofs.OneFault.{header_fault_one, header_less}
use Rattle.packet_file.proofs.OnePacketFault.{packet_fault_one}
use Rattle.packet_file.proofs.NoBadPiece.{no_bad_piece, packet_less}
use Rattle.packet_file.proofs.laws.files_have_one_fault.Goals as goal

pub returns-clause-header : goal.returns-clause-header
returns-clause-header c =
    header_fault_one c.headers_and_packets_have_one_spelling.ensures.header

pub returns-clause-packet : goal.returns-clause-packet
returns-clause-packet c = packet_fault_one c.fields_have_one_spelling.ensures.id

pub returns-clause-header_less : goal.returns-clause-header_less
returns-clause-header_less c = header_less c.headers_and_packets_have_one_spelling.ensures.header

pub returns-clause-packet_less : goal.returns-clause-packet_less
returns-clause-packet_less c = packet_less c.fields_have_one_spelling.ensures.id

pub returns-clause-no_bad_piece : goal.returns-clause-no_bad_piece
returns-clause-no_bad_piece c = no_bad_piece c.fields_have_one_spelling.ensures.id
