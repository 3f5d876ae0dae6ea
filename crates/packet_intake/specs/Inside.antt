-- Inside: one packet that is taken in, or refused.
use Rattle.std.specs.Prelude.{◌≡◌, ℕ}
use Rattle.fec_base.specs.Outside.{Stream}
use Rattle.packet_file.specs.Header.{HeaderFields}
use Rattle.packet_file.specs.Packets.{Packet}
use Rattle.packet_file.specs.OneReading.{stop_by}
use Rattle.packet_file.specs.OnePacket.{StopsBefore}
use Rattle.packet_file.specs.TakenPacket.{TakesPacketOf}
use Rattle.packet_intake.specs.declared.refusal.IntakeRefusal.{IntakeRefusal}
use Rattle.packet_intake.specs.declared.refusal.IntakeRefusal.TheVariants.{File, Taker}

-- packet number `index` is refused: the input failed within it or its bytes are none, and the taker
-- stays; or the taker failed within it
abbrev pub RefusesOne : {T : Type 0} → (T → ℕ → Packet → T → Type 0) → HeaderFields → ℕ → ℕ
    → Stream → Stream → T → T → IntakeRefusal → Type 0
RefusesOne fails h most index input input_now taker taker_now (File fault) =
    (taker_now ≡ taker) × StopsBefore h most index input input_now (stop_by fault)
RefusesOne fails h most index input input_now taker taker_now Taker = (p : Packet)
    × TakesPacketOf h most index input input_now p × fails taker index p taker_now
