-- The order in which packets are sent.
use Rattle.std.specs.Prelude.{ℕ, List}
use Rattle.std.specs.List.{range_with_len}
use Rattle.park_miller.specs.Shuffle.{shuffled}

-- the numbers below n, shuffled by a generator in this state
abbrev pub order : ℕ → ℕ → List ℕ
order n state = shuffled (range_with_len 0 n) state
