use Rattle.blocking.proofs.Spread.{sizes_in_range, sizes_sum}
use Rattle.blocking.proofs.laws.blocks_are_sized.Goals as goal

-- src/laws.rt:7:1
pub returns-clause-in_range : goal.returns-clause-in_range
returns-clause-in_range c = sizes_in_range

-- src/laws.rt:7:1
pub returns-clause-all : goal.returns-clause-all
returns-clause-all c = sizes_sum
