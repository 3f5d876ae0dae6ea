-- The lines of a report.
use Rattle.std.specs.Fmt.{decimal}
use Rattle.std.specs.List.{flat_map}
use Rattle.std.specs.Prelude.{List, codes, ℕ, ◌++◌}

-- positions, each behind a space
abbrev pub spaced : List ℕ → List ℕ
spaced positions = flat_map (λ p. codes " " ++ decimal p) positions
