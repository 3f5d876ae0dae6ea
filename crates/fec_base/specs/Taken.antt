-- What a read that failed has taken.
use Rattle.std.specs.Prelude.{◌<◌, ℕ, List, length, take, Option}
use Rattle.std.specs.Io.KnownBytes.{Consumes}

-- fewer bytes than the buffer holds were taken, in order, and stand at its front
abbrev pub ConsumesFront : Option (List ℕ) → Option (List ℕ) → List ℕ → Type 0
ConsumesFront old new buf = (n : ℕ) × (n < length buf) × Consumes old new (take n buf)
