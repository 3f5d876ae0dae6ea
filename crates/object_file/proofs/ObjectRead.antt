-- Why an object could not be read.
use Rattle.std.proofs.Common.{◌≡◌, ℕ, ◌<◌, inr, List, length, arith, Option}
use Rattle.std.proofs.Common.{Result, Ok, Err, IfErr, OnErr}
use Rattle.std.specs.Io.KnownBytes.{Consumes}
use Rattle.packet_file.specs.declared.fault.Limit.TheVariants.{Length}
use Rattle.packet_file.specs.declared.fault.FileFault.TheVariants.{TooLarge}
use Rattle.object_file.specs.Object.{RefusesObject}
use Rattle.tool_base.specs.declared.causes.Refusal.{Refusal}
use Rattle.tool_base.specs.declared.causes.Refusal.TheVariants.{File}

-- bytes that were taken, and are more than an object may have
pub refuses_long : {T : Type 0} (result : Result T Refusal) (left left_now : Option (List ℕ))
    (faults faults_now size : ℕ) (bytes : List ℕ)
    → OnErr result ((result ≡ Err (File (TooLarge Length))) × (268435456 < size))
    → size ≡ length bytes → Consumes left left_now bytes
    → IfErr result (RefusesObject left left_now faults faults_now)
refuses_long (Ok x) left left_now faults faults_now size bytes said count taken = tt
refuses_long (Err e) left left_now faults faults_now size bytes said count taken =
    let is : e ≡ File (TooLarge Length) = cc (said.0) in
    inr (is, bytes, taken, omega (arith, said.1, count))
