-- What a run sees of the outside, before it and after it.
use Rattle.std.specs.Prelude.{ℕ, List, Option}
use Rattle.fec_base.specs.Outside.{Stream, stream}

-- the three streams of a run
pub record Streams : Type 0 where
  pub input : Stream
  pub output : Stream
  pub report : Stream

-- the streams at one time: input, output and report, each by its bytes and its faults
abbrev pub seen : Option (List ℕ) → ℕ → Option (List ℕ) → ℕ → Option (List ℕ) → ℕ → Streams
seen left read_faults held write_faults reported report_faults = record {
  input = stream left read_faults;
  output = stream held write_faults;
  report = stream reported report_faults;
}
