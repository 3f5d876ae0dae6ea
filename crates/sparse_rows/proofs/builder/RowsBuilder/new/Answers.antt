use Rattle.sparse_rows.proofs.Built.{built_empty, empty_is}
use Rattle.sparse_rows.proofs.builder.RowsBuilder.new.Goals as goal

pub invariant_of-result : goal.invariant_of-result
invariant_of-result c = built_empty c.args.k c.args.n c.in_ok-rows.rows.items c.in_ok-rows.ensures
    c.requires.some c.requires.within c.requires.most

pub returns : goal.returns
returns c = empty_is c.args.k c.args.n c.in_ok-rows.rows.items c.in_ok-rows.ensures
