-- How an object is cut into source blocks (RFC 5052, section 9.1), and how many encoding symbols a
-- block has.
use Rattle.std.specs.Prelude.{ℕ, ◌+◌, ◌-◌, ◌*◌, ◌/◌, List, ◌++◌, min, replicate}
use Rattle.std.specs.Int.{div_ceil}

-- how many source symbols an object of so many bytes has
abbrev pub symbol_total : ℕ → ℕ → ℕ
symbol_total size len = div_ceil size len

-- how many source blocks it has, each of at most `most` source symbols
abbrev pub block_count : ℕ → ℕ → ℕ → ℕ
block_count size len most = div_ceil (symbol_total size len) most

-- so many symbols spread over so many blocks as evenly as can be, the larger blocks first
abbrev pub spread : ℕ → ℕ → List ℕ
spread total count =
    let larger = total - total / count * count in
    replicate larger (div_ceil total count) ++ replicate (count - larger) (total / count)

-- how many source symbols each source block has
abbrev pub block_sizes : ℕ → ℕ → ℕ → List ℕ
block_sizes size len most = spread (symbol_total size len) (block_count size len most)

-- how many encoding symbols a block of k source symbols has, where the greatest block has `most`
-- and `greatest_n`
abbrev pub scaled : ℕ → ℕ → ℕ → ℕ
scaled k most greatest_n = k * greatest_n / most

-- how many encoding symbols k source symbols have in a grid of w columns, row by row: the source
-- symbols, a parity for each row of the grid, and one for each of its columns
abbrev pub size_2d : ℕ → ℕ → ℕ
size_2d k w = k + div_ceil k w + min w k
