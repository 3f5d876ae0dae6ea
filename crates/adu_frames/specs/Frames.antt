-- Datagrams, one after the other in a stream, and each in a frame of its own (after RFC 6816).
use Rattle.std.specs.Prelude.{◌≤◌, ◌+◌, ◌-◌, ℕ, List, ◌∷◌, ◌++◌, length, replicate}
use Rattle.std.specs.List.{flat_map}
use Rattle.byteorder.specs.Endian.{big_bytes}

-- a datagram: the flow that it belongs to, and its bytes
pub record Datagram : Type 0 where
  pub flow : ℕ
  pub bytes : List ℕ

-- in a stream: the flow, how many bytes there are in two bytes, and the bytes
abbrev pub datagram_bytes : Datagram → List ℕ
datagram_bytes d = d.flow ∷ (big_bytes 2 (length d.bytes) ++ d.bytes)

-- a frame of this length has room for the datagram
abbrev pub FitsFrame : ℕ → Datagram → Type 0
FitsFrame len d = length d.bytes + 3 ≤ len

-- in a frame: as in a stream, and then zero bytes up to the length of the frame
abbrev pub frame_bytes : ℕ → Datagram → List ℕ
frame_bytes len d = datagram_bytes d ++ replicate (len - (length d.bytes + 3)) 0

-- datagrams one after the other: a datagram stream
abbrev pub stream_of : List Datagram → List ℕ
stream_of datagrams = flat_map datagram_bytes datagrams

-- their frames, one after the other
abbrev pub frames_of : ℕ → List Datagram → List ℕ
frames_of len datagrams = flat_map (frame_bytes len) datagrams
