-- What may be wrong with the fields of the transmission information.
use Rattle.std.specs.Prelude.{ℕ, ◌==◌, ◌&&◌, not, nat_lt, nat_le, if◌then◌else◌, Option, Some, None}
use Rattle.std.specs.Prelude.{false}
use Rattle.std.specs.Option.{option_map_or}
use Rattle.oti_fields.specs.Grids.{grid_size, is_grid}
use Rattle.oti_fields.specs.declared.codec.Codec.{Codec}
use Rattle.oti_fields.specs.declared.oti.Oti.{Oti}
use Rattle.oti_fields.specs.declared.check.FieldFault.{FieldFault}
use Rattle.oti_fields.specs.declared.check.FieldFault.TheVariants.{SymbolZero, GroupNotOne}
use Rattle.oti_fields.specs.declared.check.FieldFault.TheVariants.{BlockZero, MaxBelowBlock}
use Rattle.oti_fields.specs.declared.check.FieldFault.TheVariants.{MaxTooLarge, SeedRange}
use Rattle.oti_fields.specs.declared.check.FieldFault.TheVariants.{WidthZero, NotFixed}

-- the number of a fault
abbrev pub fault_number : FieldFault → ℕ
fault_number SymbolZero = 1
fault_number GroupNotOne = 2
fault_number BlockZero = 3
fault_number MaxBelowBlock = 4
fault_number MaxTooLarge = 5
fault_number SeedRange = 6
fault_number WidthZero = 7
fault_number NotFixed = 8

-- the seed is one of the generator
abbrev pub seed_fault : Oti → Option FieldFault
seed_fault oti = if nat_le 1 oti.seed && nat_le oti.seed 2147483646 then None else Some SeedRange

-- the width of a grid stands in the place of the seed; N1 isn't used, and the greatest n follows
-- from the others
abbrev pub grid_fault : Codec → Oti → Option FieldFault
grid_fault codec oti =
    if oti.seed == 0 then Some WidthZero
    else if (oti.n1m3 == 0) && option_map_or (λ n. oti.max_n == n)
    (grid_size codec oti.block oti.seed) false then None
    else Some NotFixed

-- the first fault of the fields that only some codecs have
abbrev pub codec_fault : Codec → Oti → Option FieldFault
codec_fault codec oti = if is_grid codec then grid_fault codec oti else seed_fault oti

-- the first fault of the fields, if there is one
abbrev pub field_fault : Codec → Oti → Option FieldFault
field_fault codec oti =
    if oti.symbol == 0 then Some SymbolZero
    else if not (oti.group == 1) then Some GroupNotOne
    else if oti.block == 0 then Some BlockZero
    else if nat_lt oti.max_n oti.block then Some MaxBelowBlock
    else if nat_lt 65536 oti.max_n then Some MaxTooLarge
    else codec_fault codec oti
