use Rattle.std.proofs.Common.{◌+◌, ◌≤◌, ◌<◌, arith}
use Rattle.xor_lanes.proofs.Tiles.{tiles_done, tiles_rest}
use Rattle.xor_lanes.proofs.sums.add_columns.Goals as goal

pub loop-at-preserved : goal.loop-at-preserved
loop-at-preserved c =
    let i = c.loop-at.invariant in
    record {
      room = c.loop-at-test.true;
      whole = omega (arith, i.whole);
      done = tiles_done c.loop-at.all c.args.stride c.args.own c.loop-at.at c.args.columns.now
          c.requires.others c.args.all.now i.done i.rest 64 c.loop-at-test.true c.put_tile.new.all
          c.put_tile.ensures.sum c.put_tile.ensures.rest;
      rest = tiles_rest c.loop-at.all c.args.stride c.args.own c.loop-at.at c.args.columns.now
          c.requires.others c.args.all.now i.done i.rest 64 c.loop-at-test.true c.put_tile.new.all
          c.put_tile.ensures.sum c.put_tile.ensures.rest;
    }

pub returns-then-at-stride-clause-sum : goal.returns-then-at-stride-clause-sum
returns-then-at-stride-clause-sum c = λ j lt.
    let i = c.loop-at.invariant in
    let last : c.loop-at.at + 32 ≤ c.args.stride =
    omega (arith, i.whole, c.requires.stride, c.if-at-stride.true) in
    let end : j < c.loop-at.at + 32 =
    omega (arith, lt, c.loop-at-test.false, i.whole, c.requires.stride) in
    tiles_done c.loop-at.all c.args.stride c.args.own c.loop-at.at c.args.columns.now
    c.requires.others c.args.all.now i.done i.rest 32 last c.put_lane.new.all
    c.put_lane.ensures.sum c.put_lane.ensures.rest j end
