use Rattle.std.proofs.Common.{◌∙◌}
use Rattle.null_witness.proofs.Search.{searched}
use Rattle.null_witness.proofs.check_word.has_column.Goals as goal

pub returns : goal.returns
returns c = c.is_ok.ensures.value ∙ searched c.args.word.now c.requires c.args.column
    c.binary_search.result c.binary_search.ensures.bound c.binary_search.ensures.position
