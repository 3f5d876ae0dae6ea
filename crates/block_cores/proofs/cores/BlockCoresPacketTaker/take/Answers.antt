use Rattle.std.proofs.Common.{slice_set}
use Rattle.block_cores.proofs.Chained.{fits_more, symbol_received}
use Rattle.block_cores.proofs.cores.BlockCoresPacketTaker.take.Goals as goal

pub returns-clause-takes : goal.returns-clause-takes
returns-clause-takes c = symbol_received c.args.self.now c.self.inside.cores.items c.args.id
    c.args.bytes.now c.index_mut.result.now c.arrive.new.core c.self.view_is c.requires
    c.index_mut.ensures.value c.arrive.ensures

pub returns-clause-fits : goal.returns-clause-fits
returns-clause-fits c = fits_more c.args.self.now
    (slice_set c.self.inside.cores.items c.args.id.sbn c.arrive.new.core) c.args.id
    c.args.bytes.now
    (symbol_received c.args.self.now c.self.inside.cores.items c.args.id c.args.bytes.now
    c.index_mut.result.now c.arrive.new.core c.self.view_is c.requires c.index_mut.ensures.value
    c.arrive.ensures)
