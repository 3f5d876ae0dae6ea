-- What packets do one after the other, with one packet more.
use Rattle.std.proofs.Common.{◌≡◌, ℕ, ◌+◌, List, [], ◌∷◌, ◌++◌, length, refl, sym, subst}
use Rattle.std.proofs.Common.{◌≤◌, arith}
use Rattle.fec_base.specs.Outside.{Stream}
use Rattle.packet_file.specs.Header.{HeaderFields}
use Rattle.packet_file.specs.Packets.{Packet}
use Rattle.packet_file.specs.OneReading.{Reads}
use Rattle.packet_file.specs.OneReading.Stop.{Enough}
use Rattle.packet_file.proofs.Readings.{reads_more, reads_stop}
use Rattle.packet_file.specs.OneReading.{stop_by}
use Rattle.packet_intake.specs.Intake.{Each, RefusesPackets, Wanting}
use Rattle.packet_intake.specs.Inside.{RefusesOne}
use Rattle.packet_intake.specs.declared.refusal.IntakeRefusal.{IntakeRefusal}
use Rattle.packet_intake.specs.declared.refusal.IntakeRefusal.TheVariants.{File, Taker}

-- one packet more, one after the other
pub each_more : {T : Type 0} (takes : T → ℕ → Packet → T → Type 0) (taker mid now : T) (first : ℕ)
    (packets : List Packet) (p : Packet) → Each takes taker first packets mid
    → takes mid (first + length packets) p now → Each takes taker first (packets ++ p ∷ []) now
each_more takes taker mid now first [] p same step =
    let at : first + 0 ≡ first = omega arith in (
      now,
      subst (λ i. takes taker i p now) at (subst (λ t. takes t (first + 0) p now) same step),
      refl,
    )
each_more takes taker mid now first (q ∷ packets) p (m, head, rest) step =
    let at : first + length (q ∷ packets) ≡ first + 1 + length packets = omega arith in (
      m,
      head,
      each_more takes m mid now (first + 1) packets p rest
          (subst (λ i. takes mid i p now) at step),
    )

-- a wanted packet more
pub wanted_more : {T : Type 0} (done : T → Type 0) (takes : T → ℕ → Packet → T → Type 0)
    (taker mid now : T) (packets : List Packet) (index : ℕ) (p : Packet)
    → Each (Wanting done takes) taker 0 packets mid → length packets ≡ index → ¬ done mid
    → takes mid index p now → Each (Wanting done takes) taker 0 (packets ++ p ∷ []) now
wanted_more done takes taker mid now packets index p each counted wanting step =
    let at : index ≡ 0 + length packets = omega (arith, counted) in
    each_more (Wanting done takes) taker mid now 0 packets p each
    (wanting, subst (λ (i : ℕ). takes mid i p now) at step)

-- one packet that is refused refuses the packets
module _ {T : Type 0} (done : T → Type 0) (takes fails : T → ℕ → Packet → T → Type 0)
    (h : HeaderFields) (most : ℕ) (input mid now : Stream) (taker taker_mid taker_now : T)
    (packets : List Packet) (index : ℕ) (read : Reads h [] most input mid packets Enough)
    (each : Each (Wanting done takes) taker 0 packets taker_mid)
    (counted : length packets ≡ index) (wanting : ¬ done taker_mid)
    (later : input.faults ≤ mid.faults) where
  pub one_refuses : (refusal : IntakeRefusal)
      → RefusesOne fails h most index mid now taker_mid taker_now refusal
      → RefusesPackets done takes fails h most input now taker taker_now refusal
  one_refuses Taker (p, one, failed) = (
    packets,
    p,
    taker_mid,
    reads_more h most input mid now packets index p read counted one,
    each,
    wanting,
    subst (λ (i : ℕ). fails taker_mid i p taker_now) (sym counted) failed,
  )
  one_refuses (File fault) (same, stops) = (
    packets,
    reads_stop h most input mid now packets index (stop_by fault) read counted later stops,
    subst (Each (Wanting done takes) taker 0 packets) (sym same) each,
    subst (λ t. ¬ done t) (sym same) wanting,
  )
