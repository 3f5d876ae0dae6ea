use Rattle.tool_base.proofs.fault_report.put_refusal.Goals as goal

pub returns-in-Draws-clause-cut : goal.returns-in-Draws-clause-cut
returns-in-Draws-clause-cut g c = rw c.in-Draws.is c.put_numbered.ensures.cut
