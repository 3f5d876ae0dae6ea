-- Inside: draws of the generator.
use Rattle.std.specs.Prelude.{ℕ, ◌+◌, List, map}
use Rattle.std.specs.List.{range_with_len}
use Rattle.park_miller.specs.Generator.{after, drawn}

-- the first draws below a bound from a seed
abbrev pub draws_of : ℕ → ℕ → ℕ → List ℕ
draws_of seed below count = map (λ i. drawn below (after (i + 1) seed)) (range_with_len 0 count)
