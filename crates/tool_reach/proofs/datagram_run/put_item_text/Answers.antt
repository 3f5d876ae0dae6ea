use Rattle.tool_reach.proofs.datagram_run.put_item_text.Goals as goal

pub returns-in-Unframing-clause-cut : goal.returns-in-Unframing-clause-cut
returns-in-Unframing-clause-cut g c = rw c.in-Unframing.is c.put_text-in-Unframing.ensures.cut
