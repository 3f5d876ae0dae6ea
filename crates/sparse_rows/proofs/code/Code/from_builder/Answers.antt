use Rattle.std.proofs.Common.{ℕ, List, All, sym, subst}
use Rattle.smallvec.specs.SmallVec.{SmallVec}
use Rattle.sparse_rows.specs.Rows.{lists_of, matrix_of_rows}
use Rattle.sparse_rows.specs.Building.{IsRising}
use Rattle.sparse_rows.proofs.Sizes.{rows_few, columns_few, rows_small, columns_small}
use Rattle.sparse_rows.proofs.code.Code.from_builder.Goals as goal

pub by_columns-requires-clause-rows : goal.by_columns-requires-clause-rows
by_columns-requires-clause-rows c = subst (λ (rows : List (SmallVec ℕ)). All (IsRising c.b.inside.n)
    (lists_of rows)) (sym c.deref.ensures.value) c.b.invariant.rows

pub of-requires-clause-few : goal.of-requires-clause-few
of-requires-clause-few c =
    rw (c.deref-2.ensures.value, c.in_ok-by_columns.ensures, c.deref.ensures.value) (columns_few
    (matrix_of_rows c.b.inside.k c.b.inside.n c.b.inside.rows.items) c.b.invariant)

pub of-requires-2-clause-few : goal.of-requires-2-clause-few
of-requires-2-clause-few c = rw c.deref-3.ensures.value (rows_few (matrix_of_rows c.b.inside.k
    c.b.inside.n
    c.b.inside.rows.items) c.b.invariant)

pub of-requires-clause-small : goal.of-requires-clause-small
of-requires-clause-small c =
    rw (c.deref-2.ensures.value, c.in_ok-by_columns.ensures, c.deref.ensures.value) (columns_small
    (matrix_of_rows c.b.inside.k c.b.inside.n c.b.inside.rows.items) c.b.invariant)

pub of-requires-2-clause-small : goal.of-requires-2-clause-small
of-requires-2-clause-small c = rw c.deref-3.ensures.value (rows_small (matrix_of_rows c.b.inside.k
    c.b.inside.n c.b.inside.rows.items) c.b.invariant)
