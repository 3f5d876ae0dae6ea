use Rattle.std.proofs.Common.{◌<◌, subst}
use Rattle.sparse_rows.specs.Matrix.{IsCode}
use Rattle.sparse_rows.proofs.Transposed.{code_column_short, length_columns, column_at}
use Rattle.sparse_rows.proofs.code.Code.column.Goals as goal

pub list-requires : goal.list-requires
list-requires c = rw (c.deref.ensures, c.self.invariant.columns_are, length_columns)
    (rw (← c.self.view_is) at c.requires)

pub returns-clause-value : goal.returns-clause-value
returns-clause-value c =
    let inside : c.args.c < c.self.inside.n = rw (← c.self.view_is) at c.requires in
    rw (c.list.ensures, c.deref.ensures, c.self.invariant.columns_are, ← c.self.view_is)
    (column_at c.self.inside.n c.self.inside.tables.value.rows c.args.c inside)

pub returns-clause-short : goal.returns-clause-short
returns-clause-short c =
    let code : IsCode c.args.self.now = subst IsCode c.self.view_is c.self.invariant.code in
    rw (returns-clause-value c) (code_column_short c.args.self.now code c.args.c)
