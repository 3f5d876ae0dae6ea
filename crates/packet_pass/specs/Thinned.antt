-- The packets that a loss keeps of a sequence.
use Rattle.std.specs.Prelude.{ℕ}
use Rattle.std.specs.List.{count_by, range_with_len}
use Rattle.loss_patterns.specs.Keeps.{keeps}
use Rattle.loss_patterns.specs.declared.kind.LossKind.{LossKind}

-- how many of the first packets are kept, where the draws begin at the seed
abbrev pub kept_of : LossKind → ℕ → ℕ → ℕ
kept_of kind seed packets = count_by (keeps kind seed) (range_with_len 0 packets)
