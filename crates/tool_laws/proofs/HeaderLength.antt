-- How long a header is.
use Rattle.std.proofs.Common.{◌≡◌, length, refl}
use Rattle.packet_file.specs.Header.{HeaderFields, header_bytes}

-- a header has 26 bytes
pub length_header : (h : HeaderFields) → length (header_bytes h) ≡ 26
length_header h = refl
