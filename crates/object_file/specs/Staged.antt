-- Bytes that wait for a sink.
use Rattle.std.specs.Prelude.{◌≡◌, ℕ, List, ◌++◌, Option}
use Rattle.std.specs.Io.KnownBytes.{Appends}

-- the bytes that wait, and how many may
pub record Waiting : Type 0 where
  pub bytes : List ℕ
  pub room : ℕ

-- of the bytes that waited before, and these behind them, a front was appended to the sink, and the
-- rest waits
pub record PassesOn (held held_now : Option (List ℕ)) (before after bytes : List ℕ) : Type 0 where
  pub sent : List ℕ
  pub appended : Appends held held_now sent
  pub rest : sent ++ after ≡ before ++ bytes

-- of the bytes that waited before, and a part of these behind them, from its front on, a front was
-- appended to the sink
pub record PassesPart (held held_now : Option (List ℕ)) (before after bytes : List ℕ) : Type 0 where
  pub part : List ℕ
  pub passed : PassesOn held held_now before after part
  pub rest : List ℕ
  pub whole : bytes ≡ part ++ rest
