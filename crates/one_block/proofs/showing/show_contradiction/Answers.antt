use Rattle.std.proofs.Common.{[]}
use Rattle.one_block.specs.Block.{arrivals_of}
use Rattle.one_block.proofs.showing.show_contradiction.Goals as goal

pub show_more-requires : goal.show_more-requires
show_more-requires g c = (
  arrivals_of c.args.packets.now,
  record {
    block = c.take_packets.ensures.block;
    stands = c.in_ok-take_packets.ensures.stands [] c.in_ok-session.ensures.open.stands;
  },
)
