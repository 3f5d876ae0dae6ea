-- Inside: the staircase while it is put behind a left side.
use Rattle.std.specs.Prelude.{ℕ, slice_set}
use Rattle.sparse_rows.specs.Matrix.{Matrix}
use Rattle.staircase.specs.Staircase.{stair_row}

-- a left side whose row i has its repair symbols behind it
abbrev pub with_stair : Matrix → ℕ → Matrix
with_stair m i = record m { rows = slice_set m.rows i (stair_row m i) }
