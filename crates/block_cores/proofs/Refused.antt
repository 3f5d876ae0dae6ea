-- Why a file isn't taken to its end.
use Rattle.std.proofs.Common.{List, Option, inl, inr, ℕ, ◌≤◌, []}
use Rattle.std.specs.Io.KnownBytes.{Consumes}
use Rattle.fec_base.specs.Outside.{Stream}
use Rattle.packet_file.specs.Header.{HeaderFields, IsHeader, header_bytes}
use Rattle.packet_file.specs.OneReading.{Reads, Stop, stop_by}
use Rattle.packet_file.specs.Packets.{Packet}
use Rattle.packet_file.specs.Taking.{TakesAtMost}
use Rattle.packet_file.specs.declared.fault.FileFault.{FileFault}
use Rattle.packet_file.proofs.Readings.{reads_behind}
use Rattle.packet_intake.specs.Intake.{RefusesPackets}
use Rattle.packet_intake.specs.declared.refusal.IntakeRefusal.TheVariants as intake
use Rattle.sparse_rows.specs.Matrix.{Matrix}
use Rattle.object_file.specs.Opening.{RefusesOpening}
use Rattle.object_file.specs.Told.{HasCodes}
use Rattle.tool_base.specs.declared.causes.Refusal.{Refusal}
use Rattle.tool_base.specs.declared.causes.Refusal.TheVariants.{Draws, File, Memory, Watch}
use Rattle.block_cores.specs.Taken.{ReadsCoded, RefusesFile}

module _ (draws : Option ℕ) (most : ℕ) (input : Stream) where
  -- it isn't opened
  pub opening_refused : (now : Stream) (refusal : Refusal)
      → TakesAtMost input.bytes now.bytes 26 → RefusesOpening draws input now refusal
      → RefusesFile draws most input now refusal
  opening_refused now Memory some refuses = inl some
  opening_refused now (File fault) some refuses = inl refuses
  opening_refused now (Draws b) some refuses = refuses
  opening_refused now Watch some refuses = absurd refuses

  module _ (mid now : Stream) (h : HeaderFields) (code : ℕ → Matrix) (header : IsHeader h)
      (codes : HasCodes h draws code) (opened : Consumes input.bytes mid.bytes (header_bytes h))
      (later : input.faults ≤ mid.faults) where
    -- packets that were read behind its header
    pub file_read : (packets : List Packet) (stop : Stop) → Reads h [] most mid now packets stop
        → ReadsCoded draws most input now h code packets stop
    file_read packets stop read = record {
      read = record {
        header = header;
        reads = reads_behind h most (header_bytes h) input mid now packets stop opened later read;
      };
      codes = codes;
    }

    -- or were refused, where what takes them never fails
    pub packets_refused : {T : Type 0} (done : T → Type 0) (takes : T → ℕ → Packet → T → Type 0)
        (taker taker_now : T) (fault : FileFault)
        → RefusesPackets done takes (λ _ _ _ _. ⊥) h most mid now taker taker_now
        (intake.File fault)
        → RefusesFile draws most input now (File fault)
    packets_refused done takes taker taker_now fault (packets, read, each, free) =
        inr (h, code, packets, file_read packets (stop_by fault) read)
