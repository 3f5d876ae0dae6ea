use Rattle.std.proofs.Common.{◌≡◌}
use Rattle.park_miller.specs.Generator.{after}
use Rattle.one_block.proofs.numbers.state_after.Given as goal

abbrev pub invariant-loop : goal.invariant-loop
invariant-loop l = l.generator ≡ after l.counter l.seed
