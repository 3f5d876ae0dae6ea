use Rattle.sparse_rows.proofs.Built.{row_rises, built_with, value_with}
use Rattle.sparse_rows.proofs.builder.RowsBuilder.insert.Goals as goal

pub insert_column-requires : goal.insert_column-requires
insert_column-requires c =
    let i = c.self.inside in
    (row_rises i.k i.n i.rows.items c.self.invariant c.args.self.now c.self.view_is c.args.r
    c.requires.row c.index_mut.result.now c.index_mut.ensures.value).rising

pub invariant_of-self : goal.invariant_of-self
invariant_of-self c =
    let i = c.self.inside in
    built_with i.k i.n i.rows.items c.self.invariant c.args.self.now c.self.view_is c.args.r
    c.requires.row c.index_mut.result.now c.index_mut.ensures.value c.args.c c.requires.column
    c.insert_column.new.row c.insert_column.result c.insert_column.ensures.ok
    c.insert_column.ensures.err

pub returns-clause-ok : goal.returns-clause-ok
returns-clause-ok c =
    let i = c.self.inside in
    value_with i.k i.n i.rows.items c.self.invariant c.args.self.now c.self.view_is c.args.r
    c.requires.row c.index_mut.result.now c.index_mut.ensures.value c.args.c c.requires.column
    c.insert_column.new.row c.insert_column.result c.insert_column.ensures.ok
    c.insert_column.ensures.err
