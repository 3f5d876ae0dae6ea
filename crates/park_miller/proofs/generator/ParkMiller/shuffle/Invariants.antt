use Rattle.park_miller.proofs.Exchanges.{IsShuffledDownTo}
use Rattle.park_miller.proofs.generator.ParkMiller.shuffle.Given as goal

abbrev pub invariant-loop-place : goal.invariant-loop-place
invariant-loop-place l = IsShuffledDownTo l.initial.list l.initial.self l.place l.list l.self
