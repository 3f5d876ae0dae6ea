-- One pass over datagrams: what was taken of the input and what was written, however it ends.
use Rattle.std.specs.Prelude.{◌≡◌, ◌<◌, ◌+◌, ℕ, List, [], ◌++◌, length, take, All}
use Rattle.std.specs.Io.KnownBytes.{Consumes, IsAtEnd}
use Rattle.fec_base.specs.Causes.{Rose}
use Rattle.fec_base.specs.Outside.{Stream}
use Rattle.adu_frames.specs.Frames.{Datagram, FitsFrame}
use Rattle.datagram_pass.specs.Faults.{HasDatagramFault, IsCut}
use Rattle.datagram_pass.specs.Ways.{IsWithin, all_taken, all_written, taken_of, written_of}
use Rattle.datagram_pass.specs.declared.kind.DatagramRefusal.{DatagramRefusal}
use Rattle.datagram_pass.specs.declared.kind.DatagramRefusal.TheVariants.{Fault, Memory, Output}
use Rattle.datagram_pass.specs.declared.kind.DatagramRefusal.TheVariants.{Read}
use Rattle.datagram_pass.specs.declared.kind.Way.{Way}

-- whole datagrams were taken and then a piece, and what goes for these datagrams is the text
pub record Passes (way : Way) (symbol : ℕ) (input input_now : Stream) (datagrams : List Datagram)
    (piece text : List ℕ) : Type 0 where
  pub each : All (FitsFrame symbol) datagrams
  pub within : IsWithin symbol (length datagrams)
  pub taken : Consumes input.bytes input_now.bytes (all_taken way symbol datagrams ++ piece)
  pub text_is : text ≡ all_written way symbol datagrams

-- the input was read to its end: it is datagrams, so many, and this is what goes for them
abbrev pub PassesWhole : Way → ℕ → Stream → Stream → ℕ → List ℕ → Type 0
PassesWhole way symbol input input_now count out = (datagrams : List Datagram)
    × Passes way symbol input input_now datagrams [] out
    × IsAtEnd input_now.bytes × (length datagrams ≡ count)

-- what a pass wrote that ended before the end of the input: nothing, for want of memory, where
-- nothing was taken either; what goes for the datagrams before an input that failed or the first
-- fault; or a front of it where the output failed, within what goes for the last datagram taken
abbrev pub PassEnds : Way → ℕ → Stream → Stream → DatagramRefusal → List ℕ → Type 0
PassEnds way symbol input input_now Memory out = (out ≡ []) × (input_now ≡ input)
PassEnds way symbol input input_now Read out = (datagrams : List Datagram) × (piece : List ℕ)
    × Passes way symbol input input_now datagrams piece out
    × IsCut way symbol (length datagrams) piece × Rose input.faults input_now.faults
PassEnds way symbol input input_now (Fault fault) out = (datagrams : List Datagram)
    × (piece : List ℕ) × Passes way symbol input input_now datagrams piece out
    × HasDatagramFault way symbol (length datagrams) piece input_now.bytes fault
PassEnds way symbol input input_now Output out = (datagrams : List Datagram) × (last : Datagram)
    × (text : List ℕ)
    × Passes way symbol input input_now datagrams (taken_of way symbol last) text
    × FitsFrame symbol last × IsWithin symbol (length datagrams + 1)
    × (n : ℕ) × (n < length (written_of way symbol last))
    × (out ≡ text ++ take n (written_of way symbol last))
