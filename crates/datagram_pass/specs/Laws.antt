-- What a pass over datagrams comes to.
use Rattle.std.specs.Prelude.{◌≡◌, ◌<◌, ◌≤◌, ◌^◌, ℕ, List, All, Some, length}
use Rattle.fec_base.specs.Outside.{Stream}
use Rattle.adu_frames.specs.Frames.{Datagram, FitsFrame}
use Rattle.datagram_pass.specs.Pass.{PassEnds, PassesWhole}
use Rattle.datagram_pass.specs.Ways.{IsWithin, all_taken, all_written}
use Rattle.datagram_pass.specs.declared.kind.DatagramFault.{DatagramFault}
use Rattle.datagram_pass.specs.declared.kind.DatagramRefusal.TheVariants.{Fault}
use Rattle.datagram_pass.specs.declared.kind.Way.{Way}
use Rattle.datagram_pass.specs.declared.kind.Way.TheVariants.{Framing, Unframing}

-- datagrams that frames of this length have room for, no more of them than an object has bytes for
pub record AreDatagrams (symbol : ℕ) (datagrams : List Datagram) : Type 0 where
  pub least : 3 ≤ symbol
  pub most : symbol < 2 ^ 16
  pub each : All (FitsFrame symbol) datagrams
  pub within : IsWithin symbol (length datagrams)

-- an input that is datagrams has no fault
abbrev pub DatagramsHaveNoFault : Type 0
DatagramsHaveNoFault = (way : Way) (symbol : ℕ) (datagrams : List Datagram)
    (input input_now : Stream) (fault : DatagramFault) (out : List ℕ)
    → AreDatagrams symbol datagrams → input.bytes ≡ Some (all_taken way symbol datagrams)
    → ¬ (PassEnds way symbol input input_now (Fault fault) out)

-- a pass to the end of it writes what goes for them
abbrev pub DatagramsArePassed : Type 0
DatagramsArePassed = (way : Way) (symbol : ℕ) (datagrams : List Datagram)
    (input input_now : Stream) (count : ℕ) (out : List ℕ)
    → AreDatagrams symbol datagrams → input.bytes ≡ Some (all_taken way symbol datagrams)
    → PassesWhole way symbol input input_now count out
    → (out ≡ all_written way symbol datagrams) × (count ≡ length datagrams)

-- what framing wrote of a stream is datagrams, and unframing writes that stream of it
abbrev pub UnframingUndoesFraming : Type 0
UnframingUndoesFraming = (symbol : ℕ) (datagram_stream : List ℕ) (input input_now : Stream)
    (count : ℕ) (out : List ℕ) → 3 ≤ symbol → symbol < 2 ^ 16
    → input.bytes ≡ Some datagram_stream → PassesWhole Framing symbol input input_now count out
    → (datagrams : List Datagram) × AreDatagrams symbol datagrams
    × (out ≡ all_taken Unframing symbol datagrams)
    × (datagram_stream ≡ all_written Unframing symbol datagrams) × (count ≡ length datagrams)
