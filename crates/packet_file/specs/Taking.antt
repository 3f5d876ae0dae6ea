-- How much is taken where reading fails.
use Rattle.std.specs.Prelude.{◌≤◌, ℕ, List, length, Option}
use Rattle.std.specs.Io.KnownBytes.{Consumes}

-- at most so many bytes were taken
abbrev pub TakesAtMost : Option (List ℕ) → Option (List ℕ) → ℕ → Type 0
TakesAtMost left left_now most = (bytes : List ℕ) × Consumes left left_now bytes
    × (length bytes ≤ most)
