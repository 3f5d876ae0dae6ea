use Rattle.xor_lanes.proofs.Tiles.{tile_first, tile_next}
use Rattle.xor_lanes.proofs.sums.sum_tile.Goals as goal

pub loop-i-init : goal.loop-i-init
loop-i-init c = tile_first 64 c.args.all.now c.args.stride c.args.own c.args.at c.args.columns.now
    c.requires.own

pub loop-i-preserved : goal.loop-i-preserved
loop-i-preserved c =
    tile_next 64 c.args.all.now c.args.stride c.args.own c.args.at c.args.columns.now c.loop-i.i
    c.loop-i-test.true c.loop-i.sum c.loop-i.auto.sum.0 c.loop-i.invariant
    (c.requires.each c.loop-i.i 0 c.loop-i-test.true)
