-- The losses and their texts.
use Rattle.std.specs.Prelude.{ℕ, Bool, ◌==◌, List, Option, Some, None, codes}
use Rattle.std.specs.Prelude.{if◌then◌else◌, option_map, option_and_then}
use Rattle.std.specs.List.{before_first, after_first}
use Rattle.std.specs.Str.{bytes_eq}
use Rattle.loss_patterns.specs.Numbers.{number_in}
use Rattle.loss_patterns.specs.declared.kind.LossKind.{LossKind}
use Rattle.loss_patterns.specs.declared.kind.LossKind.TheVariants as loss

-- the byte that stands before each number of a loss (58)
abbrev pub is_colon : ℕ → Bool
is_colon c = c == 58

-- two thousandths, with a colon between them
abbrev pub burst_of : List ℕ → Option LossKind
burst_of text = option_and_then (λ begins. option_map (loss.Burst begins)
    (number_in 0 1000 (after_first is_colon text))) (number_in 0 1000 (before_first is_colon text))

-- the loss of this name with these numbers
abbrev pub loss_named : List ℕ → List ℕ → Option LossKind
loss_named name numbers =
    if bytes_eq name (codes "first") then option_map loss.First (number_in 0 16777216 numbers)
    else if bytes_eq name (codes "even") then option_map loss.Even (number_in 0 1000 numbers)
    else if bytes_eq name (codes "burst") then burst_of numbers
    else None

-- the loss that the text names: `none`, or the name before its first colon, with the numbers that
-- stand after it
abbrev pub loss_of : List ℕ → Option LossKind
loss_of text =
    if bytes_eq text (codes "none") then Some loss.None
    else loss_named (before_first is_colon text) (after_first is_colon text)
