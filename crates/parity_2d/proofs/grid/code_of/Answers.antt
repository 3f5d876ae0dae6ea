use Rattle.std.proofs.Common.{◌≡◌, ◌<◌, All, IfOk, sym, subst, arith}
use Rattle.sparse_rows.specs.Matrix.{HasShape}
use Rattle.parity_2d.proofs.Shape.{sources_alone, made, matrix_has_shape}
use Rattle.parity_2d.proofs.grid.code_of.Goals as goal

pub add_parities-requires-clause-sources : goal.add_parities-requires-clause-sources
add_parities-requires-clause-sources c =
    subst (λ m. All (All (λ x. x < c.args.k)) m.rows) (sym c.in_ok-add_sources.ensures)
    (sources_alone c.args.k c.args.width c.args.corners)

pub from_builder-requires : goal.from_builder-requires
from_builder-requires c =
    subst HasShape (sym (made c.args.k c.args.width c.args.corners c.in_ok-rows.ensures
    (omega arith) c.in_ok-add_sources.ensures c.in_ok-add_parities.ensures))
    (matrix_has_shape c.args.k c.args.width c.args.corners c.requires.some c.requires.wide)

pub returns : goal.returns
returns c =
    subst (λ m. IfOk c.from_builder.result (λ code. code ≡ m))
    (made c.args.k c.args.width c.args.corners c.in_ok-rows.ensures (omega arith)
    c.in_ok-add_sources.ensures c.in_ok-add_parities.ensures)
    c.from_builder.ensures
