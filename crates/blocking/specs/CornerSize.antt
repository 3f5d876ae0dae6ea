-- The size of a grid with a corner.
use Rattle.std.specs.Prelude.{ℕ, ◌+◌}
use Rattle.blocking.specs.Blocks.{size_2d}

-- how many encoding symbols a block of k source symbols has in a grid of width w with a corner, the
-- parity of all source symbols: one more
abbrev pub size_2d_corner : ℕ → ℕ → ℕ
size_2d_corner k w = size_2d k w + 1
