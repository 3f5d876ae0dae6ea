-- Why an object could not be had.
use Rattle.std.specs.Prelude.{◌≡◌, ◌<◌, ◌⊎◌, ℕ, List, length, Option}
use Rattle.std.specs.Io.KnownBytes.{Consumes}
use Rattle.fec_base.specs.Causes.{Rose}
use Rattle.packet_file.specs.declared.fault.Limit.TheVariants.{Length}
use Rattle.packet_file.specs.declared.fault.FileFault.TheVariants.{TooLarge, ReadFault}
use Rattle.tool_base.specs.declared.causes.Refusal.{Refusal}
use Rattle.tool_base.specs.declared.causes.Refusal.TheVariants.{Memory, File}

-- memory lacked, or the input failed
abbrev pub RefusesPiece : ℕ → ℕ → Refusal → Type 0
RefusesPiece faults faults_now refusal = (refusal ≡ Memory)
    ⊎ ((refusal ≡ File ReadFault) × Rose faults faults_now)

-- or it is longer than an object may be
abbrev pub RefusesObject : Option (List ℕ) → Option (List ℕ) → ℕ → ℕ → Refusal → Type 0
RefusesObject left left_now faults faults_now refusal = RefusesPiece faults faults_now refusal
    ⊎ ((refusal ≡ File (TooLarge Length)) × (bytes : List ℕ) × Consumes left left_now bytes
    × (268435456 < length bytes))
