use Rattle.std.proofs.Common.{◌+◌, ◌*◌, ℕ, List, get_or, ap, ◌∙◌}
use Rattle.xor_lanes.proofs.Tiles.{tile_in, tile_out}
use Rattle.xor_lanes.proofs.sums.put_lane.Goals as goal

pub returns-clause-sum : goal.returns-clause-sum
returns-clause-sum c = λ j lt.
    let from : ℕ = c.args.own * c.args.stride + c.args.at in
    ap (λ (ys : List ℕ). get_or ys (from + j) 0) c.store_lane.ensures
    ∙ tile_in c.args.all.now c.sum_lane-sum.result from 32 c.sum_lane-sum.ensures.long
    c.requires.own j lt ∙ c.sum_lane-sum.ensures.bytes j lt

pub returns-clause-rest : goal.returns-clause-rest
returns-clause-rest c = λ k out.
    let from : ℕ = c.args.own * c.args.stride + c.args.at in
    ap (λ (ys : List ℕ). get_or ys k 0) c.store_lane.ensures
    ∙ tile_out c.args.all.now c.sum_lane-sum.result from 32 c.sum_lane-sum.ensures.long k out
