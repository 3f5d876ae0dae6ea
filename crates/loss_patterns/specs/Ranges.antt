-- The ranges of the numbers of a loss.
use Rattle.std.specs.Prelude.{◌≤◌, ⊤}
use Rattle.loss_patterns.specs.declared.kind.LossKind.{LossKind}
use Rattle.loss_patterns.specs.declared.kind.LossKind.TheVariants as loss

-- the numbers of a loss are in their ranges
abbrev pub IsLoss : LossKind → Type 0
IsLoss loss.None = ⊤
IsLoss (loss.First lost) = lost ≤ 16777216
IsLoss (loss.Even chance) = chance ≤ 1000
IsLoss (loss.Burst begins ends) = (begins ≤ 1000) × (ends ≤ 1000)
