-- What a pass leaves in its output.
use Rattle.std.specs.Prelude.{◌≡◌, ℕ, List}
use Rattle.std.specs.Io.KnownBytes.{Appends}
use Rattle.fec_base.specs.Causes.{Rose}
use Rattle.fec_base.specs.Outside.{Stream}
use Rattle.packet_pass.specs.Pass.{PassEnds, PassesWhole}
use Rattle.packet_pass.specs.declared.kind.Pass.{Pass}
use Rattle.packet_pass.specs.declared.kind.Passed.{Passed}
use Rattle.packet_pass.specs.declared.kind.PassRefusal.{PassRefusal}
use Rattle.packet_pass.specs.declared.kind.PassRefusal.TheVariants.{Output}

-- the text of the whole input was written
abbrev pub WritesWhole : Pass → ℕ → Stream → Stream → Stream → Stream → Passed → Type 0
WritesWhole pass most input input_now output output_now passed = (out : List ℕ)
    × Appends output.bytes output_now.bytes out
    × PassesWhole pass most input input_now passed out

-- the pass ended early, behind what it wrote; where the output failed, its count of faults rose
abbrev pub WritesEarly : Pass → ℕ → Stream → Stream → Stream → Stream → PassRefusal → Type 0
WritesEarly pass most input input_now output output_now refusal = (out : List ℕ)
    × Appends output.bytes output_now.bytes out × PassEnds pass most input input_now refusal out
    × (refusal ≡ Output → Rose output.faults output_now.faults)
