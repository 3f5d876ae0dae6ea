use Rattle.std.proofs.Common.{subst}
use Rattle.fec_session.specs.Verdict.{Decides}
use Rattle.fec_session.proofs.outcome.finish_core.Goals as goal

pub returns-in-Ok-Block-clause-outcome : goal.returns-in-Ok-Block-clause-outcome
returns-in-Ok-Block-clause-outcome c =
    subst (Decides c.args.core) c.in-Ok-Block.field-0-is c.in-Ok-Block.ensures.verdict

pub returns-in-Ok-Undetermined-clause-outcome : goal.returns-in-Ok-Undetermined-clause-outcome
returns-in-Ok-Undetermined-clause-outcome c =
    subst (Decides c.args.core) c.in-Ok-Undetermined.field-0-is c.in-Ok-Undetermined.ensures.verdict

pub returns-in-Ok-NoCodeword-clause-outcome : goal.returns-in-Ok-NoCodeword-clause-outcome
returns-in-Ok-NoCodeword-clause-outcome c =
    subst (Decides c.args.core) c.in-Ok-NoCodeword.field-0-is c.in-Ok-NoCodeword.ensures.verdict
