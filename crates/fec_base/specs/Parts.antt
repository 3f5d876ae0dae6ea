-- What a call that writes several times and may end early does to the bytes.
use Rattle.std.specs.Prelude.{◌≡◌, ◌++◌, List, Option, ℕ}
use Rattle.std.specs.Io.KnownBytes.{Appends}

-- a part of the bytes, from their front on, was appended
abbrev pub AppendsPart : Option (List ℕ) → Option (List ℕ) → List ℕ → Type 0
AppendsPart old new bytes =
    (part : List ℕ) × (rest : List ℕ) × Appends old new part × (bytes ≡ part ++ rest)
