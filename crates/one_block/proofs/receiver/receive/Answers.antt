use Rattle.std.proofs.Common.{[]}
use Rattle.one_block.specs.Block.{arrivals_of}
use Rattle.one_block.proofs.receiver.receive.Goals as goal

pub returns : goal.returns
returns g c =
    c.in_ok-verdict.ensures (arrivals_of c.args.packets.now) (record {
      block = c.take_packets.ensures.block;
      stands = c.in_ok-take_packets.ensures.stands [] c.in_ok-session.ensures.open.stands;
    })
