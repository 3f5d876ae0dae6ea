use Rattle.std.proofs.Common.{◌≡◌, IfOk, subst}
use Rattle.parity_2d.proofs.Corners.{without_corner}
use Rattle.parity_2d.proofs.grid.parity_2d.Goals as goal

pub returns : goal.returns
returns c = subst (λ m. IfOk c.code_of.result (λ code. code ≡ m))
    (without_corner c.args.k c.args.width) c.code_of.ensures
