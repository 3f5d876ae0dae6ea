-- Beside the promises of a run: how long a packet is at most.
use Rattle.std.specs.Prelude.{ℕ, ◌+◌}
use Rattle.packet_file.specs.Header.{HeaderFields}
use Rattle.packet_file.specs.declared.version.Version.{Version}
use Rattle.packet_file.specs.declared.version.Version.TheVariants.{One, Two}

-- by the version, how many bytes a packet has at most
abbrev pub packet_most_by : Version → ℕ → ℕ
packet_most_by One len = 4 + len
packet_most_by Two len = 6 + len

-- how many bytes a packet of the file has at most
abbrev pub packet_most : HeaderFields → ℕ
packet_most h = packet_most_by h.version h.oti.symbol
