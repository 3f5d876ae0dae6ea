use Rattle.std.proofs.Common.{◌≡◌, ◌<◌, ◌≤◌, ⊎_elim, Err, slice_index, ◌∙◌, arith}
use Rattle.std.proofs.lemmas.Bool.{cases_lt}
use Rattle.std.proofs.lemmas.List.{get_or_default}
use Rattle.std.proofs.lemmas.List.Sorted.{searched}
use Rattle.partial_block.proofs.Rising.{columns_ordered}
use Rattle.partial_block.proofs.reading.place_of.Goals as goal

pub unreachable-requires : goal.unreachable-requires
unreachable-requires c =
    let columns = c.args.columns.now in
    let column = c.args.column in
    let at = c.requires.there.0 in
    let found = searched columns column (Err c.in-Err.field-0) c.in-Err.ensures.position
    (columns_ordered columns c.requires.rising) in
    let is : slice_index columns at ≡ column = get_or_default columns at 0 column c.requires.there.1
    ∙ c.requires.there.2 in
    ⊎_elim
    (λ (before : at < c.in-Err.field-0). let less = found.1 at before in omega arith)
    (λ (behind : c.in-Err.field-0 ≤ at). let more = found.2 at behind c.requires.there.1 in
    omega arith)
    (cases_lt at c.in-Err.field-0)
