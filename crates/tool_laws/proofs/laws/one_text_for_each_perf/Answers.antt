use Rattle.tool_laws.proofs.OnePerf.{text_one}
use Rattle.tool_laws.proofs.laws.one_text_for_each_perf.Goals as goal

pub returns : goal.returns
returns c o t other = text_one c.each_run_has_a_result.ensures.one o t other
