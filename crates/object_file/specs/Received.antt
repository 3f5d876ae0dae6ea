-- What arrives for the blocks of a packet file.
use Rattle.std.specs.Prelude.{◌==◌, ℕ, List, filter, map}
use Rattle.packet_file.specs.Packets.{Packet}
use Rattle.sparse_rows.specs.Codeword.{Arrival}

-- what arrived for block b, in order
abbrev pub arrivals_of : ℕ → List Packet → List Arrival
arrivals_of b packets = map (λ (p : Packet). (p.0.esi, p.1))
    (filter (λ (p : Packet). p.0.sbn == b) packets)
