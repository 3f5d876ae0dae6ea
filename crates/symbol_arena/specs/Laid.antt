-- Inside: bytes of one block as a list of symbols.
use Rattle.std.specs.Prelude.{ℕ, ◌*◌, List, map}
use Rattle.std.specs.List.{range_with_len}
use lib.Lanes.{chunk}

-- the first `len` bytes of each of the `count` parts of `stride` bytes
abbrev pub laid_symbols : ℕ → ℕ → ℕ → List ℕ → List (List ℕ)
laid_symbols count stride len bytes = map (λ s. chunk (s * stride) len bytes)
    (range_with_len 0 count)
