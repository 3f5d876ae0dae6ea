-- Why a symbol is no frame.
use Rattle.std.specs.Prelude.{◌≡◌, ◌≢◌, ◌<◌, ◌^◌, ℕ, List, ◌∷◌, ◌++◌, length, replicate}
use Rattle.byteorder.specs.Endian.{big_bytes}
use Rattle.adu_frames.specs.Frames.{Datagram, datagram_bytes}
use Rattle.adu_frames.specs.declared.reading.FrameFault.{FrameFault}
use Rattle.adu_frames.specs.declared.reading.FrameFault.TheVariants.{LengthPast, PaddingSet}

-- the symbol is no frame, and this is its first fault: its length field is above what there is room
-- for, or a byte behind the datagram isn't zero
abbrev pub HasFrameFault : List ℕ → FrameFault → Type 0
HasFrameFault symbol (LengthPast count) = (flow : ℕ) × (rest : List ℕ)
    × (symbol ≡ flow ∷ (big_bytes 2 count ++ rest)) × (count < 2 ^ 16) × (length rest < count)
HasFrameFault symbol PaddingSet = (d : Datagram) × (padding : List ℕ)
    × (symbol ≡ datagram_bytes d ++ padding) × (length d.bytes < 2 ^ 16)
    × (padding ≢ replicate (length padding) 0)
