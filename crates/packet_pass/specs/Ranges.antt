-- The ranges of the numbers of a pass.
use Rattle.std.specs.Prelude.{◌≤◌, ⊤}
use Rattle.loss_patterns.specs.Ranges.{IsLoss}
use Rattle.packet_pass.specs.declared.kind.Pass.{Pass}
use Rattle.packet_pass.specs.declared.kind.Pass.TheVariants.{Lose, Show, Upgrade}

-- the loss and its seed are in their ranges
abbrev pub IsPass : Pass → Type 0
IsPass (Lose kind seed) = IsLoss kind × ((1 ≤ seed) × (seed ≤ 2147483646))
IsPass Show = ⊤
IsPass Upgrade = ⊤
