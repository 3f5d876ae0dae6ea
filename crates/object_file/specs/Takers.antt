-- Inside: a receiver that takes in the packets of a file.
use Rattle.std.specs.Prelude.{All, List, Option, slice_index_or, true, ℕ, ◌≡◌, ◌≤◌}
use Rattle.fec_base.specs.Causes.{Rose}
use Rattle.fec_base.specs.Told.{GrowsTold, Telling}
use Rattle.fec_session.specs.Session.{ReceivesAt, TellsFront, rebuilt}
use Rattle.packet_file.specs.Header.{HeaderFields}
use Rattle.packet_file.specs.Packets.{Packet}
use Rattle.peeling.specs.Decoder.{Decoder}
use Rattle.peeling.specs.Lookups.{HasAllSource}
use Rattle.sparse_rows.specs.Matrix.{Matrix}
use Rattle.object_file.specs.Receiving.{AreCores}
use Rattle.packet_intake.specs.declared.refusal.IntakeRefusal.{IntakeRefusal}
use Rattle.packet_intake.specs.declared.refusal.IntakeRefusal.TheVariants as intake
use Rattle.tool_base.specs.declared.causes.Refusal.{Refusal}
use Rattle.tool_base.specs.declared.causes.Refusal.TheVariants.{File, Watch}
use Rattle.object_file.specs.declared.reception.Taking.{Taking}

-- it takes in a packet: the decoder of its block receives it, the watch is told of what that makes
-- known, and it stays the watch that it is
pub record TakesIn {W : Type 0} (told : W → Option (List Telling)) (faults name : W → ℕ)
    (old new : Taking W) (p : Packet) : Type 0 where
  pub received : ReceivesAt old.receiver.cores new.receiver.cores p.0.sbn p.0.esi p.1
  pub grown : (d : Decoder) → GrowsTold (told old.receiver.watch) (told new.receiver.watch)
      (rebuilt p.0.sbn (slice_index_or new.receiver.cores p.0.sbn d))
  pub later : faults old.receiver.watch ≤ faults new.receiver.watch
  pub name_is : name new.receiver.watch ≡ name old.receiver.watch
  pub early_is : new.early ≡ old.early

-- or the watch fails within what the packet makes known
pub record FailsWithin {W : Type 0} (told : W → Option (List Telling)) (faults name : W → ℕ)
    (old new : Taking W) (p : Packet) : Type 0 where
  pub received : ReceivesAt old.receiver.cores new.receiver.cores p.0.sbn p.0.esi p.1
  pub count : ℕ
  pub front : (d : Decoder) → TellsFront (told old.receiver.watch) (told new.receiver.watch) p.0.sbn
      (slice_index_or new.receiver.cores p.0.sbn d) count
  pub rose : Rose (faults old.receiver.watch) (faults new.receiver.watch)
  pub name_is : name new.receiver.watch ≡ name old.receiver.watch

-- it wants no more: it was asked to end early, and all source is known
abbrev pub HasAll : {W : Type 0} → Taking W → Type 0
HasAll taking = (taking.early ≡ true) × All HasAllSource taking.receiver.cores

-- its decoders are those of the file's blocks, whatever they received
abbrev pub IsOfFile : {W : Type 0} → HeaderFields → Taking W → Type 0
IsOfFile h taking = (code : ℕ → Matrix) × (packets : List Packet)
    × AreCores h code packets taking.receiver.cores

-- why a file is refused whose packets aren't taken in: by the same fault, or since the watch failed
abbrev pub refused_by : IntakeRefusal → Refusal
refused_by (intake.File fault) = File fault
refused_by intake.Taker = Watch
