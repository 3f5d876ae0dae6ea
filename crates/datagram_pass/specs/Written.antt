-- What a pass leaves in its output.
use Rattle.std.specs.Prelude.{◌≡◌, ℕ, List}
use Rattle.std.specs.Io.KnownBytes.{Appends}
use Rattle.fec_base.specs.Causes.{Rose}
use Rattle.fec_base.specs.Outside.{Stream}
use Rattle.datagram_pass.specs.Pass.{PassEnds, PassesWhole}
use Rattle.datagram_pass.specs.declared.kind.DatagramRefusal.{DatagramRefusal}
use Rattle.datagram_pass.specs.declared.kind.DatagramRefusal.TheVariants.{Output}
use Rattle.datagram_pass.specs.declared.kind.Way.{Way}

-- what goes for the whole input was written
abbrev pub WritesWhole : Way → ℕ → Stream → Stream → Stream → Stream → ℕ → Type 0
WritesWhole way symbol input input_now output output_now count = (out : List ℕ)
    × Appends output.bytes output_now.bytes out
    × PassesWhole way symbol input input_now count out

-- the pass ended early, behind what it wrote; where the output failed, its count of faults rose
abbrev pub WritesEarly : Way → ℕ → Stream → Stream → Stream → Stream → DatagramRefusal → Type 0
WritesEarly way symbol input input_now output output_now refusal = (out : List ℕ)
    × Appends output.bytes output_now.bytes out
    × PassEnds way symbol input input_now refusal out
    × (refusal ≡ Output → Rose output.faults output_now.faults)
