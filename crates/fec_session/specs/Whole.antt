-- Inside: how many blocks, from the first on, know all of their source.
use Rattle.std.specs.Prelude.{◌<◌, ◌≤◌, ℕ, List, length, slice_index_or}
use Rattle.peeling.specs.Decoder.{Decoder}
use Rattle.peeling.specs.Lookups.{HasAllSource}

-- the first `count` decoders know each of their source symbols
pub record AreWhole (cores : List Decoder) (count : ℕ) : Type 0 where
  pub within : count ≤ length cores
  pub whole : (b : ℕ) (d : Decoder) → b < count → HasAllSource (slice_index_or cores b d)

-- they do, and the decoder after them doesn't
pub record IsWholeFront (cores : List Decoder) (count : ℕ) : Type 0 where
  pub front : AreWhole cores count
  pub next : (d : Decoder) → count < length cores → ¬ HasAllSource (slice_index_or cores count d)
