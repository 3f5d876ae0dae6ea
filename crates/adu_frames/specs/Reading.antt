-- What a symbol is as a frame.
use Rattle.std.specs.Prelude.{◌≡◌, ◌≤◌, ◌+◌, ℕ, List, length, take, drop}
use Rattle.adu_frames.specs.Frames.{Datagram, frame_bytes}
use Rattle.adu_frames.specs.declared.reading.Frame.{Frame}

-- the datagram of a frame that was read of a symbol: so many bytes from place 3
abbrev pub datagram_in : List ℕ → Frame → Datagram
datagram_in symbol frame = record { flow = frame.flow; bytes = take frame.length (drop 3 symbol) }

-- the symbol is the frame of that datagram
pub record IsFrame (symbol : List ℕ) (frame : Frame) : Type 0 where
  pub room : frame.length + 3 ≤ length symbol
  pub spelled : symbol ≡ frame_bytes (length symbol) (datagram_in symbol frame)
