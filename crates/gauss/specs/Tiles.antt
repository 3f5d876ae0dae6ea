-- Inside: the bytes of symbols that are worked on at a time.
use Rattle.std.specs.Prelude.{◌≤◌, ◌+◌}
use Rattle.gauss.specs.declared.values.Tile.{Tile}

-- bytes within the symbols, and no more than stay in the cache
pub record IsTile (tile : Tile) : Type 0 where
  pub most : tile.len ≤ 65535
  pub small : tile.size ≤ 512
  pub within : tile.start + tile.size ≤ tile.len
