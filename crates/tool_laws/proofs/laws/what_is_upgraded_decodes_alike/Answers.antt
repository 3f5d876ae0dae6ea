use Rattle.tool_laws.proofs.Upgraded.{upgrade_decodes, upgrade_writes}
use Rattle.tool_laws.proofs.laws.what_is_upgraded_decodes_alike.Goals as goal

pub returns-clause-upgraded : goal.returns-clause-upgraded
returns-clause-upgraded c = upgrade_writes c.headers_and_packets_have_one_spelling.ensures.upgrade

pub returns-clause-decoded : goal.returns-clause-decoded
returns-clause-decoded c = upgrade_decodes c.headers_and_packets_have_one_spelling.ensures.header
    c.headers_and_packets_have_one_spelling.ensures.packet
    c.headers_and_packets_have_one_spelling.ensures.upgrade
