-- Where no packet is read.
use Rattle.std.specs.Prelude.{ℕ, List}
use Rattle.std.specs.Io.KnownBytes.{Consumes}
use Rattle.fec_base.specs.Outside.{Stream}
use Rattle.packet_file.specs.Header.{HeaderFields}
use Rattle.packet_file.specs.OneReading.{Stop, StopsAt}

-- a piece was taken that is no packet number `index`, of at most `most`, and the reading stopped
abbrev pub StopsBefore : HeaderFields → ℕ → ℕ → Stream → Stream → Stop → Type 0
StopsBefore h most index input input_now stop = (piece : List ℕ)
    × Consumes input.bytes input_now.bytes piece × StopsAt h most index input input_now piece stop
