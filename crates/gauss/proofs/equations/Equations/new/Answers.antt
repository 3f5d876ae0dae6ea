use Rattle.std.proofs.Common.{◌*◌, ap, ap₂, ◌∙◌}
use Rattle.gauss.specs.Packed.{packed_system}
use Rattle.gauss.proofs.Building.{empty_system, zeros}
use Rattle.gauss.proofs.equations.Equations.new.Goals as goal

pub returns : goal.returns
returns c = ap₂ (packed_system c.args.unknowns c.args.len c.args.rows)
    (c.in_ok-words.ensures.items_if_clones_equal (λ y e. e) ∙ ap (λ w. zeros (c.args.rows * w))
    c.width_of.ensures) c.in_ok-sums.ensures
    ∙ empty_system c.args.unknowns c.args.len c.args.rows
