use Rattle.packet_file.proofs.Limits.{blocks_are_few, blocks_are_sized}
use Rattle.packet_file.proofs.OneFile.{file_one, header_one, packet_one, packet_spelled}
use Rattle.packet_file.proofs.OneFile.{upgrade_has_packets}
use Rattle.packet_file.proofs.laws.headers_and_packets_have_one_spelling.Goals as goal

pub returns-clause-header : goal.returns-clause-header
returns-clause-header c = header_one c.fields_have_one_spelling.ensures.fields

pub returns-clause-packet : goal.returns-clause-packet
returns-clause-packet c = packet_one c.fields_have_one_spelling.ensures.id

pub returns-clause-spelled : goal.returns-clause-spelled
returns-clause-spelled c = packet_spelled c.fields_have_one_spelling.ensures.id
    c.fields_have_one_spelling.ensures.spelled

pub returns-clause-file : goal.returns-clause-file
returns-clause-file c = file_one (returns-clause-header c) (returns-clause-packet c)

pub returns-clause-upgrade : goal.returns-clause-upgrade
returns-clause-upgrade c = upgrade_has_packets

pub returns-clause-blocks : goal.returns-clause-blocks
returns-clause-blocks c = λ h is. (blocks_are_sized h is, blocks_are_few h is)
