use Rattle.tool_laws.proofs.laws.one_reading_for_each_file.Goals as goal

pub returns : goal.returns
returns c = c.headers_and_packets_have_one_spelling.ensures.file
