-- Frames and datagrams, one to one.
use Rattle.std.specs.Prelude.{◌≡◌, ◌<◌, ◌+◌, ◌^◌, ◌++◌, ℕ, List, All, length}
use Rattle.adu_frames.specs.Frames.{Datagram, FitsFrame, datagram_bytes, frame_bytes, frames_of}
use Rattle.adu_frames.specs.Frames.{stream_of}
use Rattle.adu_frames.specs.Faults.{HasFrameFault}
use Rattle.adu_frames.specs.declared.reading.FrameFault.{FrameFault}

-- bytes begin with one datagram of a stream at most
abbrev pub DatagramIsOne : Type 0
DatagramIsOne = (d e : Datagram) (rest other : List ℕ) → length d.bytes < 2 ^ 16
    → length e.bytes < 2 ^ 16 → datagram_bytes d ++ rest ≡ datagram_bytes e ++ other
    → (d ≡ e) × (rest ≡ other)

-- and with one frame of a length at most
abbrev pub FrameIsOne : Type 0
FrameIsOne = (len : ℕ) (d e : Datagram) (rest other : List ℕ) → len < 2 ^ 16 → FitsFrame len d
    → FitsFrame len e → frame_bytes len d ++ rest ≡ frame_bytes len e ++ other
    → (d ≡ e) × (rest ≡ other)

-- a frame has no fault
abbrev pub FrameIsFaultless : Type 0
FrameIsFaultless = (len : ℕ) (d : Datagram) (fault : FrameFault) → len < 2 ^ 16 → FitsFrame len d
    → ¬ (HasFrameFault (frame_bytes len d) fault)

-- symbols are the frames of one list of datagrams at most
abbrev pub FramesAreOne : Type 0
FramesAreOne = (len : ℕ) (ds es : List Datagram) → len < 2 ^ 16 → All (FitsFrame len) ds
    → All (FitsFrame len) es → frames_of len ds ≡ frames_of len es → ds ≡ es

-- and bytes are the stream of one list of datagrams at most
abbrev pub StreamIsOne : Type 0
StreamIsOne = (ds es : List Datagram) → All (FitsFrame (2 ^ 16 + 2)) ds
    → All (FitsFrame (2 ^ 16 + 2)) es → stream_of ds ≡ stream_of es → ds ≡ es
