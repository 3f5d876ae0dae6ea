-- The header of a packet file, and the blocks that it speaks of.
use Rattle.std.specs.Prelude.{◌≡◌, ℕ, ◌*◌, Bool, nat_lt, if◌then◌else◌, List, ◌∷◌, ◌++◌, Option}
use Rattle.std.specs.Prelude.{Some, None, map, sum, codes, unwrap_or}
use Rattle.std.specs.List.{list_any}
use Rattle.blocking.specs.Blocks.{block_count, block_sizes, scaled}
use Rattle.oti_fields.specs.Fields.{FitsBits, codec_number, oti_bytes}
use Rattle.oti_fields.specs.Faults.{field_fault}
use Rattle.oti_fields.specs.Grids.{grid_size}
use Rattle.oti_fields.specs.declared.codec.Codec.{Codec}
use Rattle.oti_fields.specs.declared.oti.Oti.{Oti}
use Rattle.packet_file.specs.declared.fault.Limit.TheVariants.{Length, BlockBytes, AllSymbols}
use Rattle.packet_file.specs.declared.fault.Limit.TheVariants.{AllBytes}
use Rattle.packet_file.specs.declared.fault.FileFault.{FileFault}
use Rattle.packet_file.specs.declared.fault.FileFault.TheVariants.{TooLarge, TooManyBlocks}
use Rattle.packet_file.specs.declared.version.Version.{Version}
use Rattle.packet_file.specs.declared.version.Version.TheVariants.{One, Two}

-- the number of a version
abbrev pub version_number : Version → ℕ
version_number One = 1
version_number Two = 2

-- the version, the codec, and the transmission information
pub record HeaderFields : Type 0 where
  pub version : Version
  pub codec : Codec
  pub oti : Oti

-- the magic, the version, the codec, two reserved bytes, and the transmission information
abbrev pub header_bytes : HeaderFields → List ℕ
header_bytes h = codes "OFPK" ++ version_number h.version ∷ codec_number h.codec ∷ 0 ∷ 0
    ∷ oti_bytes h.oti

-- how many source symbols each source block has
abbrev pub source_counts : HeaderFields → List ℕ
source_counts h = block_sizes h.oti.length h.oti.symbol h.oti.block

-- how many encoding symbols a block of k source symbols has: those of its grid, or else in the
-- proportion of the greatest n to the greatest block
abbrev pub symbols_by : Codec → Oti → ℕ → ℕ
symbols_by codec oti k = unwrap_or (grid_size codec k oti.seed) (scaled k oti.block oti.max_n)

-- how many encoding symbols a block of k source symbols of the file has
abbrev pub symbol_count : HeaderFields → ℕ → ℕ
symbol_count h k = symbols_by h.codec h.oti k

-- how many encoding symbols all blocks have
abbrev pub total_symbols : HeaderFields → ℕ
total_symbols h = sum (map (symbol_count h) (source_counts h))

-- whether some block has more than 268,435,456 bytes of encoding symbols
abbrev pub has_large_block : HeaderFields → Bool
has_large_block h = list_any (λ k. nat_lt 268435456 (symbol_count h k * h.oti.symbol))
    (source_counts h)

-- the first limit that the sizes pass, if they pass one
abbrev pub size_fault : HeaderFields → Option FileFault
size_fault h =
    if nat_lt 268435456 h.oti.length then Some (TooLarge Length)
    else if nat_lt 4096 (block_count h.oti.length h.oti.symbol h.oti.block) then Some TooManyBlocks
    else if has_large_block h then Some (TooLarge BlockBytes)
    else if nat_lt 4194304 (total_symbols h) then Some (TooLarge AllSymbols)
    else if nat_lt 536870912 (total_symbols h * h.oti.symbol) then Some (TooLarge AllBytes)
    else None

-- each field fits into its bits, the fields have no fault, and the sizes are within the limits
pub record IsHeader (h : HeaderFields) : Type 0 where
  pub bits : FitsBits h.oti
  pub fields : field_fault h.codec h.oti ≡ None
  pub sizes : size_fault h ≡ None
