-- Which codecs are grids, and how many encoding symbols a grid has.
use Rattle.std.specs.Prelude.{ℕ, Bool, true, false, Option, Some, None}
use Rattle.blocking.specs.Blocks.{size_2d}
use Rattle.blocking.specs.CornerSize.{size_2d_corner}
use Rattle.oti_fields.specs.declared.codec.Codec.{Codec}
use Rattle.oti_fields.specs.declared.codec.Codec.TheVariants.{Staircase, Triangle, Parity2d}
use Rattle.oti_fields.specs.declared.codec.Codec.TheVariants.{Corner2d}

-- whether the codec is a grid, which has a width in the place of a seed
abbrev pub is_grid : Codec → Bool
is_grid Staircase = false
is_grid Triangle = false
is_grid Parity2d = true
is_grid Corner2d = true

-- how many encoding symbols k source symbols have in the codec's grid of w columns; none where the
-- codec is no grid, and has as many as it is asked for
abbrev pub grid_size : Codec → ℕ → ℕ → Option ℕ
grid_size Staircase k w = None
grid_size Triangle k w = None
grid_size Parity2d k w = Some (size_2d k w)
grid_size Corner2d k w = Some (size_2d_corner k w)
