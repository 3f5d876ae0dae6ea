-- What refuses a packet file.
use Rattle.std.proofs.Common.{ℕ, ◌≤◌, Bool, List, length, Option, inl, inr}
use Rattle.sparse_rows.specs.Matrix.{Matrix}
use Rattle.packet_file.specs.Header.{HeaderFields}
use Rattle.packet_file.specs.Taking.{TakesAtMost}
use Rattle.packet_file.specs.OneReading.{stop_by}
use Rattle.packet_file.proofs.Readings.{stops_since}
use Rattle.object_file.specs.Reception.{FailsAtPackets, RefusesDecode}
use Rattle.fec_base.specs.Outside.{Hearing, Stream, stream}
use Rattle.object_file.specs.Opening.{RefusesOpening}
use Rattle.object_file.specs.Told.{Opens}
use Rattle.tool_base.specs.declared.causes.Refusal.{Refusal}
use Rattle.tool_base.specs.declared.causes.Refusal.TheVariants.{Memory, File, Draws, Watch}
use Rattle.object_file.proofs.Telling.{keeps_same}

module _ (draws : Option ℕ) (early : Bool) (most : ℕ) (input now : Stream) (watch : Hearing) where
  -- a file that isn't opened is refused, with nothing told
  pub opening_refused : (refusal : Refusal) → TakesAtMost input.bytes now.bytes 26
      → RefusesOpening draws input now refusal → RefusesDecode draws early most input now watch
      watch refusal
  opening_refused Memory (bytes, taken, short) refuses =
      inl (bytes, taken, short, keeps_same watch.told)
  opening_refused (File fault) some lacks = inl (keeps_same watch.told, lacks)
  opening_refused (Draws b) some (h, header, taken, first) =
      (h, header, taken, first, keeps_same watch.told)
  opening_refused Watch some refuses = absurd refuses

  -- what refuses the packets behind a header refuses the file
  pub behind_refused : (mid : Option (List ℕ)) (watch_now : Hearing) (faults_mid : ℕ)
      (h : HeaderFields) (code : ℕ → Matrix) → Opens draws input.bytes mid h code
      → input.faults ≤ faults_mid → (refusal : Refusal)
      → FailsAtPackets h code early most (stream mid faults_mid) now watch watch_now refusal
      → RefusesDecode draws early most input now watch watch_now refusal
  behind_refused mid watch_now faults_mid h code opens later Memory fails = absurd fails
  behind_refused mid watch_now faults_mid h code opens later (File fault)
      (packets, piece, stands, wanted, stops) =
      inr (
        h,
        code,
        mid,
        opens,
        (
          packets,
          piece,
          stands,
          wanted,
          stops_since h most (length packets) (stream mid input.faults) (stream mid faults_mid) now
              piece (stop_by fault) later stops,
        ),
      )
  behind_refused mid watch_now faults_mid h code opens later (Draws b) fails = absurd fails
  behind_refused mid watch_now faults_mid h code opens later Watch fails =
      (h, code, mid, opens, fails)
