use Rattle.one_block.proofs.Opened.{verdict_is}
use Rattle.one_block.proofs.receiver.conclude_again.Goals as goal

pub returns-in-Ok : goal.returns-in-Ok
returns-in-Ok g c =
    verdict_is c.args.session c.in-Ok.verdict c.in-Ok.ensures.verdict c.in-Ok.ensures.back
