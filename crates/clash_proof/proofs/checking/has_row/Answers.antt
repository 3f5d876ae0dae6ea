use Rattle.std.proofs.Common.{◌∙◌}
use Rattle.null_witness.proofs.Search.{searched}
use Rattle.clash_proof.proofs.checking.has_row.Goals as goal

pub returns : goal.returns
returns c = c.is_ok.ensures.value ∙ searched c.args.rows.now c.requires c.args.r
    c.binary_search.result c.binary_search.ensures.bound c.binary_search.ensures.position
