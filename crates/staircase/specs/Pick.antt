-- The first good draw of a generator whose draws are counted up to a limit.
use Rattle.std.specs.Prelude.{ℕ, ◌+◌, ◌-◌, Bool, Option}
use Rattle.std.specs.List.{find, range_with_len}
use Rattle.std.specs.Option.{option_map}
use Rattle.park_miller.specs.Generator.{after, drawn}
use Rattle.park_miller.specs.LimitedDraws.{LimitedDraws}

-- the generator after so many more draws
abbrev pub after_draws : ℕ → LimitedDraws → LimitedDraws
after_draws count g = record g { state = after count g.state; used = g.used + count }

-- the value of a draw, and the generator after it
pub record Picked : Type 0 where
  pub value : ℕ
  pub draws : LimitedDraws

-- the first good draw below m: the i-th, for the least i, up to the number of draws that are left,
-- at which its value is good; none where no such draw is
unfoldable pub pick : ℕ → (ℕ → Bool) → LimitedDraws → Option Picked
pick m good g =
    option_map (λ i. record { value = drawn m (after i g.state); draws = after_draws i g })
    (find (λ i. good (drawn m (after i g.state))) (range_with_len 1 (g.limit - g.used)))
