use Rattle.std.proofs.Common.{◌≡◌}
use Rattle.park_miller.specs.Generator.{after}
use Rattle.one_block.specs.Numbers.{draws_of}
use Rattle.one_block.proofs.numbers.first_draws.Given as goal

abbrev pub invariant-loop : goal.invariant-loop
invariant-loop l = record {
  state : l.generator ≡ after l.counter l.seed;
  draws : l.draws.items ≡ draws_of l.seed l.below l.counter;
}
