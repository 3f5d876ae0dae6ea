-- The generator: the "minimal standard" of Park and Miller (RFC 5170, section 5.7), with draws
-- scaled in whole numbers. `next` and `drawn` unfold only on request, since who draws needs nothing
-- of their arithmetic.
use Rattle.std.specs.Prelude.{ℕ, ◌*◌, ◌/◌, ◌%◌}
use Rattle.std.proofs.Common.{zero, suc}

-- the modulus, the prime 2^31 - 1
abbrev pub modulus : ℕ
modulus = 2147483647

-- the multiplier, a primitive root of the modulus
abbrev pub multiplier : ℕ
multiplier = 16807

-- the state after one step
unfoldable pub next : ℕ → ℕ
next state = multiplier * state % modulus

-- the state after so many steps
abbrev pub after : ℕ → ℕ → ℕ
after zero state = state
after (suc steps) state = next (after steps state)

-- the value of a draw below a bound: the bound times the new state, over the modulus, rounded down
unfoldable pub drawn : ℕ → ℕ → ℕ
drawn below state = below * state / modulus
