-- The fields of the transmission information and of a packet's payload identifier, as numbers and
-- as bytes (RFC 5170, sections 4.1 and 4.2).
use Rattle.std.specs.Prelude.{ℕ, ◌+◌, ◌*◌, ◌^◌, ◌<◌, List, ◌++◌}
use Rattle.byteorder.specs.Endian.{big_bytes}
use Rattle.oti_fields.specs.declared.codec.Codec.{Codec}
use Rattle.oti_fields.specs.declared.codec.Codec.TheVariants.{Staircase, Triangle, Parity2d}
use Rattle.oti_fields.specs.declared.codec.Codec.TheVariants.{Corner2d}
use Rattle.oti_fields.specs.declared.oti.Oti.{Oti}
use Rattle.oti_fields.specs.declared.identifier.PacketId.{PacketId}

-- the number of a codec
abbrev pub codec_number : Codec → ℕ
codec_number Staircase = 3
codec_number Triangle = 4
codec_number Parity2d = 200
codec_number Corner2d = 201

-- each field fits into its bits
pub record FitsBits (oti : Oti) : Type 0 where
  pub length_bits : oti.length < 2 ^ 48
  pub symbol_bits : oti.symbol < 2 ^ 16
  pub n1m3_bits : oti.n1m3 < 2 ^ 3
  pub group_bits : oti.group < 2 ^ 5
  pub block_bits : oti.block < 2 ^ 20
  pub max_n_bits : oti.max_n < 2 ^ 20
  pub seed_bits : oti.seed < 2 ^ 32

-- the transfer length in 48 bits; the symbol length in 16; N1 - 3 in 3 and G in 5; the greatest
-- block length in 20 and the greatest n in 20; the seed, or the width, in 32
abbrev pub oti_bytes : Oti → List ℕ
oti_bytes oti =
    big_bytes 6 oti.length ++ big_bytes 2 oti.symbol ++ big_bytes 1 (oti.n1m3 * 2 ^ 5 + oti.group)
    ++ big_bytes 5 (oti.block * 2 ^ 20 + oti.max_n) ++ big_bytes 4 oti.seed

-- the number of a source block fits into 12 bits, and that of an encoding symbol into 20
pub record FitsIdBits (id : PacketId) : Type 0 where
  pub sbn_bits : id.sbn < 2 ^ 12
  pub esi_bits : id.esi < 2 ^ 20

-- the number of the source block in 12 bits, and that of the encoding symbol in 20
abbrev pub id_bytes : PacketId → List ℕ
id_bytes id = big_bytes 4 (id.sbn * 2 ^ 20 + id.esi)
