-- What an `upgrade` of a packet file writes, and what comes back of it.
use Rattle.std.specs.Prelude.{◌≡◌, ◌≢◌, ℕ, Bool, List, [], All, Option, Some, IfSome}
use Rattle.fec_base.specs.Told.{Telling}
use Rattle.fec_session.specs.declared.outcome.Outcome.{Outcome}
use Rattle.packet_file.specs.Files.{HasZeroPadding, IsPacketFile, upgraded}
use Rattle.packet_file.specs.Header.{HeaderFields}
use Rattle.packet_file.specs.Packets.{Packet}
use Rattle.packet_file.specs.declared.version.Version.TheVariants.{Two}
use Rattle.packet_pass.specs.declared.kind.Pass.TheVariants.{Upgrade}
use Rattle.tool_base.specs.Outside.{Streams}
use Rattle.tool_base.specs.declared.status.Status.TheVariants as status
use Rattle.tool_commands.specs.DecodeRun.{Decodes}
use Rattle.tool_commands.specs.Outcomes.{outcome_status}
use Rattle.tool_commands.specs.PassRun.{IsPassRun}
use Rattle.tool_laws.specs.Laws.{told_at}

-- an `upgrade` of these bytes came to its end and wrote these
pub record WroteUpgrade (most : ℕ) (bytes made : List ℕ) : Type 0 where
  pub first : Streams
  pub last : Streams
  pub run : IsPassRun Upgrade most first last status.Done
  pub read : first.input.bytes ≡ Some bytes
  pub empty : first.output.bytes ≡ Some []
  pub wrote : last.output.bytes ≡ Some made

-- it read a packet file whose padding is zero, and wrote the one of version 2 with the same
-- packets, one by one; where that was of version 2 it is the same file
pub record IsUpgradeOf (most : ℕ) (bytes made : List ℕ) : Type 0 where
  pub header : HeaderFields
  pub packets : List Packet
  pub read : IsPacketFile header most packets bytes
  pub padding : All (HasZeroPadding header) packets
  pub wrote : IsPacketFile (upgraded header) most packets made
  pub unchanged : header.version ≡ Two → made ≡ bytes

-- what an `upgrade` wrote is that of what it read
abbrev pub UpgradeWritesPacketFile : Type 0
UpgradeWritesPacketFile = (most : ℕ) (bytes made : List ℕ) → WroteUpgrade most bytes made
    → IsUpgradeOf most bytes made

-- what an `upgrade` wrote decodes as what it read, whatever the limits of draws and packets are:
-- its blocks come out alike, so that the object and the report are the same; and where it is known
-- what is told, it is told of the same places, and unless some block is contradicted of the same
-- symbols
abbrev pub UpgradeDecodesAlike : Type 0
UpgradeDecodesAlike = (read : ℕ) (bytes made : List ℕ) (draws other_draws : Option ℕ)
    (early : Bool) (most other_most : ℕ) (told : Option (List Telling))
    (left other_left : Option (List ℕ)) (told_now other_told : Option (List Telling))
    (outcomes others : List Outcome) (object other report other_report : List ℕ)
    → WroteUpgrade read bytes made
    → Decodes draws early most (Some bytes) left told told_now outcomes object report
    → Decodes other_draws early other_most (Some made) other_left told other_told
    others other other_report
    → (outcomes ≡ others) × (object ≡ other) × (report ≡ other_report)
    × IfSome told (λ before. told_at told_now ≡ told_at other_told)
    × (outcome_status outcomes ≢ status.NoCodeword → IfSome told (λ before. told_now ≡ other_told))
