use Rattle.std.proofs.Common.{not, ap, sym, ◌∙◌}
use Rattle.sparse_rows.proofs.Rising.{with_column_held, insert-is_with_column, is_in_between}
use Rattle.sparse_rows.proofs.builder.insert_column.Goals as goal

pub returns-in-Ok-clause-ok : goal.returns-in-Ok-clause-ok
returns-in-Ok-clause-ok c = let held = rw c.as_slice.ensures at c.in-Ok.ensures.held in
    with_column_held c.args.c c.in-Ok.field-0 c.args.row.now.items c.requires held.0 held.1

pub returns-in_ok-insert-in-Err-clause-added : goal.returns-in_ok-insert-in-Err-clause-added
returns-in_ok-insert-in-Err-clause-added c =
    ap not (sym (is_in_between c.args.c c.in-Err.place c.args.row.now.items
    (rw c.as_slice.ensures at c.in-Err.ensures.below)
    (rw c.as_slice.ensures at c.in-Err.ensures.above)))

pub returns-in_ok-insert-in-Err-clause-ok : goal.returns-in_ok-insert-in-Err-clause-ok
returns-in_ok-insert-in-Err-clause-ok c =
    c.in_ok-insert-in-Err.ensures.ok
    ∙ insert-is_with_column c.args.c c.in-Err.place c.args.row.now.items
    (rw c.as_slice.ensures at c.in-Err.ensures.below)
    (rw c.as_slice.ensures at c.in-Err.ensures.above)
