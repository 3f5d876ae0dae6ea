use Rattle.std.proofs.Common.{◌∙◌, ap}
use Rattle.sparse_rows.specs.Matrix.{is_in}
use Rattle.sparse_rows.proofs.Rising.{found_is}
use Rattle.sparse_rows.proofs.builder.RowsBuilder.has.Goals as goal

pub returns : goal.returns
returns c =
    c.is_ok.ensures.value ∙ found_is c.place_of.result c.args.c c.row.result.now
    c.place_of.ensures.held c.place_of.ensures.below c.place_of.ensures.above
    ∙ ap (λ columns. is_in columns c.args.c) c.row.ensures.value
