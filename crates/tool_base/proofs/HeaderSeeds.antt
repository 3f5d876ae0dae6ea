-- The seed in a header is one of the generator.
use Rattle.std.proofs.Common.{◌≡◌, ◌≤◌, false, None, rules}
use Rattle.oti_fields.specs.Faults.{field_fault}
use Rattle.oti_fields.specs.Grids.{is_grid}
use Rattle.oti_fields.specs.declared.codec.Codec.{Codec}
use Rattle.oti_fields.specs.declared.codec.Codec.TheVariants.{Staircase, Triangle, Parity2d}
use Rattle.oti_fields.specs.declared.codec.Codec.TheVariants.{Corner2d}
use Rattle.oti_fields.specs.declared.oti.Oti.{Oti}

pub seed_within : (codec : Codec) (oti : Oti) → field_fault codec oti ≡ None
    → is_grid codec ≡ false → oti.seed ≤ 2147483646
seed_within Staircase oti whole drawn = search rules
seed_within Triangle oti whole drawn = search rules
seed_within Parity2d oti whole drawn = absurd (cc)
seed_within Corner2d oti whole drawn = absurd (cc)
