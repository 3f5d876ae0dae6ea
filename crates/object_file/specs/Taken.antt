-- How much of the input is taken.
use Rattle.std.specs.Prelude.{ℕ, ◌+◌}

-- how many bytes of the input are taken at most: the longest object, and the piece that shows that
-- it is longer
abbrev pub most_taken : ℕ
most_taken = 268435456 + 65536
