use Rattle.park_miller.proofs.Exchanges.{IsShuffledDownTo-more}
use Rattle.park_miller.proofs.generator.ParkMiller.shuffle.Goals as goal

pub loop-place-preserved : goal.loop-place-preserved
loop-place-preserved c =
    let drew = c.draw-other.ensures in
    let swapped = c.swap.ensures in
    IsShuffledDownTo-more _ _ _ _ _ _ _ _ c.loop-place.invariant c.loop-place-test.true
    c.loop-place.auto.place drew.state drew.value swapped.after swapped.permutation
