-- Which way datagrams go: what is taken of the input for each, and what is written for it.
use Rattle.std.specs.Prelude.{◌≤◌, ◌*◌, ℕ, List}
use Rattle.adu_frames.specs.Frames.{Datagram, datagram_bytes, frame_bytes, frames_of, stream_of}
use Rattle.datagram_pass.specs.declared.kind.Way.{Way}
use Rattle.datagram_pass.specs.declared.kind.Way.TheVariants.{Framing, Unframing}

-- what is taken for a datagram: it stands in a stream, or in a frame of this length
abbrev pub taken_of : Way → ℕ → Datagram → List ℕ
taken_of Framing symbol d = datagram_bytes d
taken_of Unframing symbol d = frame_bytes symbol d

-- what is written for it: the other one
abbrev pub written_of : Way → ℕ → Datagram → List ℕ
written_of Framing symbol d = frame_bytes symbol d
written_of Unframing symbol d = datagram_bytes d

-- what is taken for datagrams, one after the other
abbrev pub all_taken : Way → ℕ → List Datagram → List ℕ
all_taken Framing symbol ds = stream_of ds
all_taken Unframing symbol ds = frames_of symbol ds

-- what is written for them
abbrev pub all_written : Way → ℕ → List Datagram → List ℕ
all_written Framing symbol ds = frames_of symbol ds
all_written Unframing symbol ds = stream_of ds

-- so many frames of this length have no more bytes than an object may have
abbrev pub IsWithin : ℕ → ℕ → Type 0
IsWithin symbol count = count * symbol ≤ 268435456
