-- What is seen of a stream and of a watch, before a call and after it.
use Rattle.std.specs.Prelude.{ℕ, List, Option}
use Rattle.fec_base.specs.Told.{Telling}

-- a stream: the bytes that an input has left or that a sink holds, where it tells them, and how
-- often it has failed
pub record Stream : Type 0 where
  pub bytes : Option (List ℕ)
  pub faults : ℕ

-- a watch: the symbols that it was told, where it tells them, and how often it has failed
pub record Hearing : Type 0 where
  pub told : Option (List Telling)
  pub faults : ℕ

-- a stream by its bytes and its faults
abbrev pub stream : Option (List ℕ) → ℕ → Stream
stream bytes faults = record { bytes = bytes; faults = faults }

-- a watch by what it was told and its faults
abbrev pub hearing : Option (List Telling) → ℕ → Hearing
hearing told faults = record { told = told; faults = faults }
