-- Inside: the states of the generator.
use Rattle.std.specs.Prelude.{ℕ, ◌<◌, ◌≤◌}
use Rattle.park_miller.specs.Generator.{modulus}

-- the states are the numbers from 1 to the modulus less one
abbrev pub IsState : ℕ → Type 0
IsState state = (1 ≤ state) × (state < modulus)
