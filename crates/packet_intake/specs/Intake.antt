-- The packets of a file, as something takes them in, one after the other.
use Rattle.std.specs.Prelude.{◌≡◌, ◌+◌, ◌⊎◌, ℕ, List, [], ◌∷◌, ◌++◌, length}
use Rattle.fec_base.specs.Outside.{Stream}
use Rattle.packet_file.specs.Header.{HeaderFields}
use Rattle.packet_file.specs.Packets.{Packet}
use Rattle.packet_file.specs.OneReading.{Reads, stop_by}
use Rattle.packet_file.specs.OneReading.Stop.{End, Enough}
use Rattle.packet_intake.specs.declared.refusal.IntakeRefusal.{IntakeRefusal}
use Rattle.packet_intake.specs.declared.refusal.IntakeRefusal.TheVariants.{File, Taker}

-- by a relation that says what one packet with its number does, this is what packets do one after
-- the other, the first of them with number `first`
abbrev pub Each : {T : Type 0} → (T → ℕ → Packet → T → Type 0) → T → ℕ → List Packet → T → Type 0
Each takes taker first [] taker_now = taker_now ≡ taker
Each {T} takes taker first (p ∷ packets) taker_now =
    (mid : T) × takes taker first p mid × Each takes mid (first + 1) packets taker_now

-- it takes a packet as long as it wants one
abbrev pub Wanting : {T : Type 0} → (T → Type 0) → (T → ℕ → Packet → T → Type 0)
    → T → ℕ → Packet → T → Type 0
Wanting done takes taker index p taker_now = (¬ done taker) × takes taker index p taker_now

-- the packets of the input were taken in, one after the other, by something that wanted each of
-- them: to the end of the input, or until it wants no more
pub record TakesAll {T : Type 0} (done : T → Type 0) (takes : T → ℕ → Packet → T → Type 0)
    (h : HeaderFields) (most : ℕ) (input input_now : Stream) (taker taker_now : T)
    (packets : List Packet) : Type 0 where
  pub each : Each (Wanting done takes) taker 0 packets taker_now
  pub over : ((¬ done taker_now) × Reads h [] most input input_now packets End)
      ⊎ (done taker_now × Reads h [] most input input_now packets Enough)

-- the packets of the input are refused where more was wanted: behind some of them the input failed,
-- or its bytes are none; or the taker failed within the last one
abbrev pub RefusesPackets : {T : Type 0} → (T → Type 0) → (T → ℕ → Packet → T → Type 0)
    → (T → ℕ → Packet → T → Type 0) → HeaderFields → ℕ → Stream → Stream → T → T → IntakeRefusal
    → Type 0
RefusesPackets done takes fails h most input input_now taker taker_now (File fault) =
    (packets : List Packet) × Reads h [] most input input_now packets (stop_by fault)
    × Each (Wanting done takes) taker 0 packets taker_now × (¬ done taker_now)
RefusesPackets {T} done takes fails h most input input_now taker taker_now Taker =
    (before : List Packet) × (last : Packet) × (mid : T)
    × Reads h [] most input input_now (before ++ last ∷ []) Enough
    × Each (Wanting done takes) taker 0 before mid × (¬ done mid)
    × fails mid (length before) last taker_now
