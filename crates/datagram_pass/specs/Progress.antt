-- Inside: one datagram of a pass.
use Rattle.std.specs.Prelude.{◌≡◌, ◌<◌, ◌≤◌, ◌+◌, ℕ, List, ◌∷◌, ◌++◌, [], length, take, All, Option}
use Rattle.std.specs.Io.KnownBytes.{Appends, Consumes}
use Rattle.byteorder.specs.Endian.{big_bytes}
use Rattle.fec_base.specs.Causes.{Rose}
use Rattle.adu_frames.specs.Frames.{Datagram, FitsFrame}
use Rattle.adu_frames.specs.declared.reading.Frame.{Frame}
use Rattle.datagram_pass.specs.Faults.{HasDatagramFault, IsCut}
use Rattle.datagram_pass.specs.Ways.{IsWithin, all_taken, all_written, taken_of, written_of}
use Rattle.datagram_pass.specs.declared.kind.DatagramRefusal.{DatagramRefusal}
use Rattle.datagram_pass.specs.declared.kind.DatagramRefusal.TheVariants.{Fault, Memory, Output}
use Rattle.datagram_pass.specs.declared.kind.DatagramRefusal.TheVariants.{Read}
use Rattle.datagram_pass.specs.declared.kind.Way.{Way}

-- these datagrams were taken, and exactly what goes for them was written
pub record Stands (way : Way) (symbol : ℕ) (left left_now held held_now : Option (List ℕ))
    (datagrams : List Datagram) : Type 0 where
  pub each : All (FitsFrame symbol) datagrams
  pub within : IsWithin symbol (length datagrams)
  pub taken : Consumes left left_now (all_taken way symbol datagrams)
  pub written : Appends held held_now (all_written way symbol datagrams)

-- three bytes are the flow and the length of datagram number `index`, for which a frame has room
pub record IsHead (symbol index : ℕ) (head : List ℕ) (frame : Frame) : Type 0 where
  pub spelled : head ≡ frame.flow ∷ (big_bytes 2 frame.length ++ [])
  pub room : frame.length + 3 ≤ symbol
  pub within : IsWithin symbol (index + 1)

-- datagram number `index` was taken
pub record TakesOne (way : Way) (symbol index : ℕ) (left left_now : Option (List ℕ))
    (d : Datagram) : Type 0 where
  pub room : FitsFrame symbol d
  pub within : IsWithin symbol (index + 1)
  pub taken : Consumes left left_now (taken_of way symbol d)

-- datagram number `index` was taken, and exactly what goes for it was written
pub record PassesOne (way : Way) (symbol index : ℕ) (left left_now held held_now : Option (List ℕ))
    (d : Datagram) : Type 0 where
  pub takes : TakesOne way symbol index left left_now d
  pub written : Appends held held_now (written_of way symbol d)

-- no datagram was taken: the input failed, or there is a fault
abbrev pub EndsReading : Way → ℕ → ℕ → Option (List ℕ) → Option (List ℕ) → ℕ → ℕ → DatagramRefusal
    → Type 0
EndsReading way symbol index left left_now faults faults_now Memory = ⊥
EndsReading way symbol index left left_now faults faults_now Read =
    (piece : List ℕ) × Consumes left left_now piece × IsCut way symbol index piece
    × Rose faults faults_now
EndsReading way symbol index left left_now faults faults_now (Fault fault) =
    (piece : List ℕ) × Consumes left left_now piece
    × HasDatagramFault way symbol index piece left_now fault
EndsReading way symbol index left left_now faults faults_now Output = ⊥

-- the pass ended at datagram number `index`: it wasn't taken and nothing was written, or only a
-- front of what goes for it was written
abbrev pub EndsAtOne : Way → ℕ → ℕ → Option (List ℕ) → Option (List ℕ) → Option (List ℕ)
    → Option (List ℕ) → ℕ → ℕ → ℕ → ℕ → DatagramRefusal → Type 0
EndsAtOne way symbol index left left_now held held_now faults faults_now sink sink_now Memory = ⊥
EndsAtOne way symbol index left left_now held held_now faults faults_now sink sink_now Read =
    (held_now ≡ held) × EndsReading way symbol index left left_now faults faults_now Read
EndsAtOne way symbol index left left_now held held_now faults faults_now sink sink_now
    (Fault fault) =
    (held_now ≡ held) × EndsReading way symbol index left left_now faults faults_now (Fault fault)
EndsAtOne way symbol index left left_now held held_now faults faults_now sink sink_now Output =
    (d : Datagram) × (n : ℕ) × TakesOne way symbol index left left_now d
    × Appends held held_now (take n (written_of way symbol d))
    × (n < length (written_of way symbol d)) × Rose sink sink_now

-- behind the beginning the pass ended early; it takes no memory there
abbrev pub EndsEarly : DatagramRefusal → Type 0 → Type 0
EndsEarly Memory ends = ⊥
EndsEarly _ ends = ends
