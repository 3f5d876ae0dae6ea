use Rattle.std.proofs.Common.{◌++◌}
use Rattle.one_block.specs.Block.{arrivals_of}
use Rattle.one_block.proofs.Opened.{has_source}
use Rattle.one_block.proofs.showing.show_more.Goals as goal

pub show_verdict-requires : goal.show_verdict-requires
show_verdict-requires g c =
    let arrivals = c.requires.0 in
    let all = arrivals ++ arrivals_of c.args.more.now in
    has_source all c.in_ok-verdict.verdict (c.in_ok-verdict.ensures all (record {
      block = c.take_packets.ensures.block;
      stands = c.in_ok-take_packets.ensures.stands arrivals c.requires.1.stands;
    }))
