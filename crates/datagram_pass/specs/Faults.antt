-- The faults of datagrams, each with the bytes that show it: what stands before a fault has none.
use Rattle.std.specs.Prelude.{◌≡◌, ◌<◌, ◌≤◌, ◌+◌, ◌*◌, ◌^◌, ◌⊎◌, ℕ, List, [], ◌∷◌, ◌++◌, length}
use Rattle.std.specs.Prelude.{Option}
use Rattle.std.specs.Io.KnownBytes.{IsAtEnd}
use Rattle.byteorder.specs.Endian.{big_bytes}
use Rattle.adu_frames.specs.Faults.{HasFrameFault}
use Rattle.adu_frames.specs.declared.reading.FrameFault.TheVariants as frame
use Rattle.datagram_pass.specs.Ways.{IsWithin}
use Rattle.datagram_pass.specs.declared.kind.DatagramFault.{DatagramFault}
use Rattle.datagram_pass.specs.declared.kind.DatagramFault.TheVariants.{LengthPast, Long}
use Rattle.datagram_pass.specs.declared.kind.DatagramFault.TheVariants.{PaddingSet, Short, TooMany}
use Rattle.datagram_pass.specs.declared.kind.Way.{Way}
use Rattle.datagram_pass.specs.declared.kind.Way.TheVariants.{Framing, Unframing}

-- a front of datagram number `index` of a stream: fewer bytes than its flow and its length have, or
-- these, with a length that a frame has room for, and fewer bytes than that
abbrev pub IsCutDatagram : ℕ → ℕ → List ℕ → Type 0
IsCutDatagram symbol index piece = (length piece < 3)
    ⊎ ((flow : ℕ) × (count : ℕ) × (front : List ℕ) × (piece ≡ flow ∷ (big_bytes 2 count ++ front))
    × IsWithin symbol (index + 1) × (count + 3 ≤ symbol) × (length front < count))

-- a front of what is taken for datagram number `index`, and not the whole of it
abbrev pub IsCut : Way → ℕ → ℕ → List ℕ → Type 0
IsCut Framing symbol index piece = IsCutDatagram symbol index piece
IsCut Unframing symbol index piece = length piece < symbol

-- what was taken for datagram number `index` has this fault, and it is the first; `left` is what is
-- left of the input behind it
abbrev pub HasDatagramFault : Way → ℕ → ℕ → List ℕ → Option (List ℕ) → DatagramFault → Type 0
HasDatagramFault Framing symbol index piece left (Short i have) =
    (i ≡ index) × (length piece ≡ have) × (0 < have) × IsCutDatagram symbol index piece
    × IsAtEnd left
HasDatagramFault Framing symbol index piece left TooMany =
    (length piece ≡ 3) × (268435456 < (index + 1) * symbol)
HasDatagramFault Framing symbol index piece left (Long i count) =
    (i ≡ index) × IsWithin symbol (index + 1) × (symbol < count + 3) × (count < 2 ^ 16)
    × (flow : ℕ) × (piece ≡ flow ∷ (big_bytes 2 count ++ []))
HasDatagramFault Framing symbol index piece left (LengthPast i count) = ⊥
HasDatagramFault Framing symbol index piece left (PaddingSet i) = ⊥
HasDatagramFault Unframing symbol index piece left TooMany =
    (268435456 < (index + 1) * symbol) × (0 < length piece) × (length piece ≤ symbol)
    × (length piece < symbol → IsAtEnd left)
HasDatagramFault Unframing symbol index piece left (Short i have) =
    (i ≡ index) × IsWithin symbol (index + 1) × (length piece ≡ have) × (0 < have) × (have < symbol)
    × IsAtEnd left
HasDatagramFault Unframing symbol index piece left (LengthPast i count) =
    (i ≡ index) × IsWithin symbol (index + 1) × (length piece ≡ symbol)
    × HasFrameFault piece (frame.LengthPast count)
HasDatagramFault Unframing symbol index piece left (PaddingSet i) =
    (i ≡ index) × IsWithin symbol (index + 1) × (length piece ≡ symbol)
    × HasFrameFault piece frame.PaddingSet
HasDatagramFault Unframing symbol index piece left (Long i count) = ⊥
