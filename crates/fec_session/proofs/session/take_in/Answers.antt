use Rattle.fec_session.proofs.Fresh.{fresh_few, fresh_known, source_stays}
use Rattle.fec_session.proofs.session.take_in.Goals as goal

pub returns-clause-fresh : goal.returns-clause-fresh
returns-clause-fresh g c = fresh_known c.args.core.now c.arrive.new.self c.args.e c.args.bytes.now
    c.code.ensures.decoder c.requires.position c.arrive.ensures.received

pub returns-clause-few : goal.returns-clause-few
returns-clause-few g c = fresh_few c.args.core.now c.arrive.new.self c.args.e c.args.bytes.now
    c.code.ensures.decoder c.requires.position c.arrive.ensures.received

pub returns-clause-source : goal.returns-clause-source
returns-clause-source g c = source_stays c.args.core.now c.arrive.new.self c.args.e
    c.args.bytes.now c.code.ensures.decoder c.requires.position c.arrive.ensures.received
