-- The code of a source block, of a file or by itself. Which code a codec builds is told apart here,
-- and nowhere above.
use Rattle.std.specs.Prelude.{ℕ, ◌+◌, ◌-◌, ◌*◌, Option, Some, None, if◌then◌else◌}
use Rattle.parity_2d.specs.Grid.{grid_matrix}
use Rattle.parity_2d.specs.Corner.{corner_matrix}
use Rattle.staircase.specs.Staircase.{CountedMatrix, staircase_matrix}
use Rattle.triangle.specs.Triangle.{triangle_matrix}
use Rattle.oti_fields.specs.Grids.{is_grid}
use Rattle.oti_fields.specs.declared.codec.Codec.{Codec}
use Rattle.oti_fields.specs.declared.codec.Codec.TheVariants.{Staircase, Triangle, Parity2d}
use Rattle.oti_fields.specs.declared.codec.Codec.TheVariants.{Corner2d}
use Rattle.packet_file.specs.Header.{HeaderFields, symbol_count}
use Rattle.tool_base.specs.declared.command.Shape.{Shape}

-- how many turns a source symbol takes at being put into a row, if there are so many rows
abbrev pub row_weight : HeaderFields → ℕ
row_weight h = h.oti.n1m3 + 3

-- how many draws a matrix may take: as many as were given, or by its size
abbrev pub limit_by : Option ℕ → ℕ → ℕ → ℕ → ℕ
limit_by (Some draws) n1 k n = draws
limit_by None n1 k n = 64 * (n1 * k + 2 * (n - k)) + 65536

-- what the header of a file of this code has in its last field: the width of the grid, or the seed
-- of the generator
abbrev pub seed_field : Shape → ℕ
seed_field shape = if is_grid shape.codec then shape.width else shape.seed

-- the matrix that a codec gives a block of k source and n encoding symbols; `field` is the seed of
-- the generator, or the width of the grid, from which n follows
abbrev pub matrix_by : Codec → ℕ → ℕ → Option ℕ → ℕ → ℕ → Option CountedMatrix
matrix_by Staircase n1 field draws k n = staircase_matrix k n n1 field (limit_by draws n1 k n)
matrix_by Triangle n1 field draws k n = triangle_matrix k n n1 field (limit_by draws n1 k n)
matrix_by Parity2d n1 field draws k n = Some (record { matrix = grid_matrix k field; draws = 0 })
matrix_by Corner2d n1 field draws k n = Some (record { matrix = corner_matrix k field; draws = 0 })

-- the matrix of a block of k source symbols of the file, and how many draws it takes; none where
-- those are more than there may be
abbrev pub block_matrix : HeaderFields → Option ℕ → ℕ → Option CountedMatrix
block_matrix h draws k =
    matrix_by h.codec (row_weight h) h.oti.seed draws k (symbol_count h k)

-- the matrix that a shape gives a block of k source and n encoding symbols, and how many draws it
-- takes; none where those are more than there may be
abbrev pub shape_matrix : Shape → ℕ → ℕ → Option CountedMatrix
shape_matrix shape k n = matrix_by shape.codec shape.n1 (seed_field shape) shape.draws k n
